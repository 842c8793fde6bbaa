-- What an accepted judgement gives: the rows are whole rows of 0 and 1, the lists of crossings are of one length, and the entries rise, each with a shape that has a name and at a place that is kept.
use Prim.Native.Nat.{ℕ, zero, suc, ◌+◌, ◌*◌, ◌%◌, ◌≤◌}
use native.Mathlib.Nat.{div-add-mod'}
use native.Mathlib.Omega.{arith}
use mathlib.Core.Path.{◌≡◌, refl, sym, ◌∙◌}
use mathlib.Core.Bool.{Bool, true, false, not, ◌&&◌, true≢false, false≢true}
use mathlib.Core.List.{List, [], ◌∷◌}
use mathlib.Core.Option.{Option, none, some}
use borrow.Author.Tests.{eqb-true, eqb-false, ltb-true, ltb-false, leb-true}
use lib.Dec.{eqb, ltb, leb}
use lib.ListN.{length, get_or}
use Rattle.outcome.specs.Outcome.{Outcome, given, refused, unfit, ◌>>◌, need}
use Rattle.outcome.proofs.Questions.{need_yes}
use Rattle.lines.specs.Lines.{LineLists, row_count, Crossing, entries, falls, bits, rowed, strays, ordered, judged}
use Rattle.lines.proofs.Keys.{lt_le_k, eq_le_k, not-lt→}
use Rattle.lines.proofs.Crossings.{Named, Kept, Follows, Later, Sorted}

refused-given {ℓ} : {X : Type ℓ} {A : Type 0} (n p : ℕ) (a : A) → ◌≡◌ {A = Outcome A} (refused n p) (given a) → X
refused-given n p a q = let z : ◌≡◌ {A = ℕ} 0 1 = cc in let w : ⊥ = omega arith in absurd w

pub both : {A : Type 0} (v : Outcome (Unit {0})) (w : Outcome A) (a : A) → (v >> w) ≡ given a → (v ≡ given tt) × (w ≡ given a)
both (given tt) w a q = (refl, q)
both (refused n p) w a q = refused-given n p a q
both (unfit n p) w a q = let z : ◌≡◌ {A = ℕ} 0 1 = cc in absurd (omega arith)

pub and_yes : (a b : Bool) → (a && b) ≡ true → (a ≡ true) × (b ≡ true)
and_yes true b e = (refl, e)
and_yes false b e = absurd (false≢true e)

not_yes : (b : Bool) → not b ≡ true → b ≡ false
not_yes true e = absurd (false≢true e)
not_yes false e = refl

-- ---- the crossings

rises_to : (x y : Crossing) → falls (some x) y ≡ false → Later x y
rises_to x y e = by (ltb y.line x.line) refl (eqb y.line x.line) refl
  where
    by : (a : Bool) → ltb y.line x.line ≡ a → (b : Bool) → eqb y.line x.line ≡ b → Later x y
    by true a b c = absurd (true≢false (rw a at e))
    by false a true c = eq_le_k x.line x.at y.line y.at (sym (eqb-true y.line x.line c)) ∙ not-lt→ y.at x.at (rw (a, c) at e)
    by false a false c = lt_le_k x.line x.at y.line y.at (omega (arith, ltb-false y.line x.line a, eqb-false y.line x.line c))

-- the first of the list, after what is before it
abbrev From : Option Crossing → List Crossing → Type 0
From none xs = Unit {0}
From (some x) xs = Follows x xs

pub record InOrder (names rows : ℕ) (xs : List Crossing) : Type 0 where
  pub sorted : Sorted xs
  pub named : Named names xs
  pub kept : Kept rows xs

module _ (names rows : ℕ) where
  ordered-from : (x : Option Crossing) (i : ℕ) (ys : List Crossing) → ordered names rows x i ys ≡ given tt → From x ys × InOrder names rows ys
  unfolding ordered
  ordered-from none i [] e = (tt, record { sorted = tt; named = tt; kept = tt })
  ordered-from (some x) i [] e = (tt, record { sorted = tt; named = tt; kept = tt })
  ordered-from x i (y ∷ ys) e =
      let rest = ordered names rows (some y) (i + 1) ys in
      let a = both (need (ltb y.shape names) 10 i) (need (not (strays rows y)) 15 i >> (need (not (falls x y)) 11 i >> rest)) tt e in
      let b = both (need (not (strays rows y)) 15 i) (need (not (falls x y)) 11 i >> rest) tt a.1 in
      let d = both (need (not (falls x y)) 11 i) rest tt b.1 in
      let r = ordered-from (some y) (i + 1) ys d.1 in (
        follows x (not_yes _ (need_yes _ 11 i d.0)),
        record {
          sorted = (r.0, r.1.sorted);
          named = (ltb-true y.shape names (need_yes _ 10 i a.0), r.1.named);
          kept = (not_yes _ (need_yes _ 15 i b.0), r.1.kept);
        },
      )
    where
      follows : (x : Option Crossing) → falls x y ≡ false → From x (y ∷ ys)
      follows none f = tt
      follows (some x) f = rises_to x y f

  ordered-gives : (xs : List Crossing) → ordered names rows none 0 xs ≡ given tt → InOrder names rows xs
  ordered-gives xs e = (ordered-from none 0 xs e).1

-- ---- the rows

bits_at : (rows : List ℕ) → bits rows ≡ true → (j : ℕ) → get_or rows j 0 ≤ 1
unfolding bits
bits_at [] e j = omega arith
bits_at (b ∷ bs) e zero = leb-true b 1 (and_yes (leb b 1) (bits bs) e).0
bits_at (b ∷ bs) e (suc j) = bits_at bs (and_yes (leb b 1) (bits bs) e).1 j

rowed-gives : (names : ℕ) (rows : List ℕ) → rowed names rows ≡ given tt → (length rows % names ≡ 0) × (row_count names rows ≤ 4294967296) × ((j : ℕ) → get_or rows j 0 ≤ 1)
rowed-gives names rows e =
    let a = and_yes (eqb (length rows % names) 0) (leb (row_count names rows) 4294967296 && bits rows) (need_yes _ 14 0 e) in
    let b = and_yes (leb (row_count names rows) 4294967296) (bits rows) a.1 in
    (eqb-true (length rows % names) 0 a.0, leb-true (row_count names rows) 4294967296 b.0, bits_at rows b.1)

-- ---- the whole judgement

module _ (names : ℕ) (c : LineLists) (e : judged names c ≡ given tt) where
  abbrev alike : Bool
  alike = eqb (length c.positions) (length c.lines) && eqb (length c.shapes) (length c.lines)

  parts : (alike ≡ true) × ((rowed names c.rows ≡ given tt) × (ordered names (row_count names c.rows) none 0 (entries c) ≡ given tt))
  unfolding judged
  parts =
      let items = ordered names (row_count names c.rows) none 0 (entries c) in
      let a = both (need alike 13 0) (rowed names c.rows >> items) tt e in
      (need_yes _ 13 0 a.0, both (rowed names c.rows) items tt a.1)

  lengths : (eqb (length c.positions) (length c.lines) ≡ true) × (eqb (length c.shapes) (length c.lines) ≡ true)
  lengths = and_yes (eqb (length c.positions) (length c.lines)) (eqb (length c.shapes) (length c.lines)) parts.0

  pub judged_positions : length c.positions ≡ length c.lines
  judged_positions = eqb-true (length c.positions) (length c.lines) lengths.0

  pub judged_shapes : length c.shapes ≡ length c.lines
  judged_shapes = eqb-true (length c.shapes) (length c.lines) lengths.1

  pub judged_in_order : InOrder names (row_count names c.rows) (entries c)
  judged_in_order = ordered-gives names (row_count names c.rows) (entries c) parts.1.1

  judged-rows : (length c.rows % names ≡ 0) × (row_count names c.rows ≤ 4294967296) × ((j : ℕ) → get_or c.rows j 0 ≤ 1)
  judged-rows = rowed-gives names c.rows parts.1.0

  -- as many bytes as rows and names give
  pub judged-whole : length c.rows ≡ row_count names c.rows * names
  judged-whole = omega (arith, div-add-mod' (length c.rows) names, judged-rows.0)

  pub judged_few : row_count names c.rows ≤ 4294967296
  judged_few = judged-rows.1

  pub judged-bytes : (j : ℕ) → get_or c.rows j 0 ≤ 1
  judged-bytes = judged-rows.2
