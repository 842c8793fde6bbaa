-- The columns say of each line what the drawing's own numbers do.
use mathlib.Core.Path.{◌≡◌, refl, sym, ap, ◌∙◌, subst}
use mathlib.Core.Bool.{Bool, true, false, cond, ◌&&◌, true≢false}
use mathlib.Core.Logic.{◌≢◌}
use mathlib.Core.List.{List, [], ◌∷◌}
use Prim.Native.Nat.{ℕ, zero, suc, ◌+◌, ◌-◌, ◌*◌, ◌<◌}
use native.Mathlib.Omega.{arith}
use lib.Dec.{ltb}
use borrow.Author.Tests.{eq-eqb, ne_eqb}
use lib.ListN.{length, drop, get_or}
use lib.Seq.{ext_get_or}
use lib.Ieee.{Float, nan, lt}
use Rattle.outcome.specs.Outcome.{Outcome, given, refused, unfit, need, ◌>>◌}
use Rattle.cross_cuts.specs.Cuts.{Cut, fault, cut, sound, faultless}
use Rattle.cross_shapes.specs.Shapes.{finite, good_pair, origin_on, component_on, face_cut, half_space_cut, box_range, crossed_twice, box_cut, shape_cut}
use Rattle.cross_shapes.specs.declared.Probe.{Probe}
use Rattle.cross_shapes.specs.declared.Shape.{Shape}
use Rattle.cross_shapes.specs.declared.Shape.TheVariants.{HalfSpace, Block}
use Rattle.cross_shapes.specs.declared.Block.{Block as Box}
use Rattle.cross_line.specs.Lent.{shape_from}
use Rattle.cross_line.specs.Crossing.{shape_cuts}
use Rattle.cross_line.proofs.LentLaws.{length-cuts, cut_at}
use Rattle.cross_columns.specs.Columns.{Column, faces_at, Columns, FiniteFaces, cut_in, cuts_from, cuts_in}

module _ (probe : Probe) (lows highs : List Float) (halves : List ℕ) where
  from-length : (i n : ℕ) → length (cuts_from probe lows highs halves i n) ≡ n
  unfolding cuts_from
  from-length i zero = refl
  from-length i (suc n) = ap suc (from-length (suc i) n)

  from_at : (i n j : ℕ) → j < n → get_or (cuts_from probe lows highs halves i n) j fault ≡ cut_in probe lows highs halves (i + j)
  unfolding cuts_from
  from_at i zero j h = absurd (omega arith)
  from_at i (suc n) zero h = let e : i ≡ i + 0 = omega arith in ap (cut_in probe lows highs halves) e
  from_at i (suc n) (suc j) h = let e : suc i + j ≡ i + suc j = omega arith in from_at (suc i) n j (omega arith) ∙ ap (cut_in probe lows highs halves) e

  pub cuts-length : (n : ℕ) → length (cuts_in probe n lows highs halves) ≡ n
  cuts-length n = from-length 0 n

  pub cuts-at : (n j : ℕ) → j < n → get_or (cuts_in probe n lows highs halves) j fault ≡ cut_in probe lows highs halves j
  cuts-at n j h = let e : 0 + j ≡ j = omega arith in from_at 0 n j h ∙ ap (cut_in probe lows highs halves) e

  column_cut : (shape : Shape) (j : ℕ) → Column shape (faces_at lows highs j) (get_or halves j 0) → shape_cut probe shape ≡ cut_in probe lows highs halves j
  column_cut (HalfSpace axis face) j c =
      let some : get_or halves j 0 ≡ 0 → ⊥ = λ z. omega (arith, c.0) in
      let less : axis ≡ get_or halves j 0 - 1 = omega (arith, c.0) in
      let e : get_or lows j nan ≡ face = ap (λ (b : Box). b.lx) c.1 in
      sym (rw (ne_eqb (get_or halves j 0) 0 some, ← less, e))
  column_cut (Block b) j c = sym (rw (eq-eqb (get_or halves j 0) 0 c.0) (ap (λ (x : Box). shape_cut probe (Block x)) c.1))

  pub columns-cuts : {kinds : List ℕ} {numbers : List Float} → Columns kinds numbers (length kinds) lows highs halves → cuts_in probe (length kinds) lows highs halves ≡ shape_cuts probe kinds numbers
  columns-cuts {kinds} {numbers} columns =
      ext_get_or fault (cuts_in probe (length kinds) lows highs halves) (shape_cuts probe kinds numbers) (cuts-length (length kinds) ∙ sym (length-cuts probe kinds numbers))
      (λ j h.
      let k : j < length kinds = omega (arith, h, cuts-length (length kinds)) in
      cuts-at (length kinds) j k ∙ sym (cut_at probe kinds numbers j k ∙ column_cut (shape_from (get_or kinds j 0) (drop (6 * j) numbers)) j (columns.right j k)))

-- ---- on a line that is not at fault every face is finite
both : (s t : Bool) → (s && t) ≡ true → (s ≡ true) × (t ≡ true)
both true t e = (refl, e)
both false t e = absurd (true≢false (sym e))

pair-finite : (low high : Float) → good_pair low high ≡ true → (finite low ≡ true) × (finite high ≡ true)
unfolding good_pair
pair-finite low high e =
    let t = both (finite low) (finite high && lt low high) e in
    (t.0, (both (finite high) (lt low high) t.1).0)

half_finite : (probe : Probe) (axis : ℕ) (face : Float) → half_space_cut probe axis face ≢ fault → finite face ≡ true
unfolding half_space_cut
half_finite probe axis face n = by (ltb 2 axis) (finite face) refl n
  where
    by : (s t : Bool) → finite face ≡ t → cond s fault (cond t (face_cut face (origin_on probe axis) (component_on probe axis)) fault) ≢ fault → finite face ≡ true
    by true t e n = absurd (n refl)
    by false true e n = e
    by false false e n = absurd (n refl)

pub box_pairs : (probe : Probe) (a b c d e f : Float) → box_cut probe a b c d e f ≢ fault → (good_pair a d ≡ true) × ((good_pair b e ≡ true) × (good_pair c f ≡ true))
unfolding box_cut
box_pairs probe a b c d e f n = by (good_pair a d) (good_pair b e) (good_pair c f) refl refl refl n
  where
    by : (s t u : Bool) → good_pair a d ≡ s → good_pair b e ≡ t → good_pair c f ≡ u → cond (s && (t && u)) (crossed_twice (box_range probe a b c d e f)) fault ≢ fault
        → (good_pair a d ≡ true) × ((good_pair b e ≡ true) × (good_pair c f ≡ true))
    by true true true x y z n = (x, (y, z))
    by true true false x y z n = absurd (n refl)
    by true false u x y z n = absurd (n refl)
    by false t u x y z n = absurd (n refl)

abbrev AllFinite : Box → Type 0
AllFinite b = (finite b.lx ≡ true) × ((finite b.ly ≡ true) × ((finite b.lz ≡ true) × ((finite b.hx ≡ true) × ((finite b.hy ≡ true) × (finite b.hz ≡ true)))))

column_finite : (probe : Probe) (shape : Shape) (b : Box) (half : ℕ) → Column shape b half → shape_cut probe shape ≢ fault → AllFinite b
column_finite probe (HalfSpace axis face) b half c n =
    let f = half_finite probe axis face n in
    subst AllFinite (sym c.1) (f, (f, (f, (f, (f, f)))))
column_finite probe (Block a) b half c n =
    let g = box_pairs probe a.lx a.ly a.lz a.hx a.hy a.hz n in
    let x = pair-finite a.lx a.hx g.0 in
    let y = pair-finite a.ly a.hy g.1.0 in
    let z = pair-finite a.lz a.hz g.1.1 in
    subst AllFinite (sym c.1) (x.0, (y.0, (z.0, (x.1, (y.1, z.1)))))

is_refused : Outcome (Unit {0}) → Bool
is_refused (given a) = false
is_refused (refused number place) = true
is_refused (unfit number place) = true

-- no cut is at fault
sound-cut : (c : Cut) (number i : ℕ) (rest : Outcome (Unit {0})) → (need (sound c) number i >> rest) ≡ given tt → (c ≢ fault) × (rest ≡ given tt)
unfolding is_refused
sound-cut fault number i rest e = absurd (true≢false (ap is_refused e))
sound-cut (cut inside positions) number i rest e = (λ h. true≢false (ap sound h), e)

pub none-at-fault : (number k : ℕ) (cuts : List Cut) → faultless number k cuts ≡ given tt → (i : ℕ) → i < length cuts → get_or cuts i fault ≢ fault
unfolding faultless
none-at-fault number k [] e i h = absurd (omega arith)
none-at-fault number k (c ∷ cs) e zero h = (sound-cut c number k (faultless number (k + 1) cs) e).0
none-at-fault number k (c ∷ cs) e (suc i) h = none-at-fault number (k + 1) cs (sound-cut c number k (faultless number (k + 1) cs) e).1 i (omega arith)

module _ {kinds : List ℕ} {numbers lows highs : List Float} {halves : List ℕ} (columns : Columns kinds numbers (length kinds) lows highs halves) (probe : Probe) (none : faultless 16 0 (shape_cuts probe kinds numbers) ≡ given tt) where
  shape-finite : (j : ℕ) → j < length kinds → AllFinite (faces_at lows highs j)
  shape-finite j h =
      column_finite probe (shape_from (get_or kinds j 0) (drop (6 * j) numbers)) _ (get_or halves j 0) (columns.right j h)
      (λ e. none-at-fault 16 0 (shape_cuts probe kinds numbers) none j (omega (arith, h, length-cuts probe kinds numbers)) (cut_at probe kinds numbers j h ∙ e))

  pub columns-finite : FiniteFaces (length kinds) lows highs
  columns-finite = record {
    low = record { x = λ j h. (shape-finite j h).0; y = λ j h. (shape-finite j h).1.0; z = λ j h. (shape-finite j h).1.1.0 };
    high = record { x = λ j h. (shape-finite j h).1.1.1.0; y = λ j h. (shape-finite j h).1.1.1.1.0; z = λ j h. (shape-finite j h).1.1.1.1.1 };
  }
