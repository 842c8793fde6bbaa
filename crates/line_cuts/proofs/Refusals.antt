-- Where the whole is refused 10, 15 or 11, and where the parts are: whatever order the crossings are in.
use Prim.Native.Nat.{ℕ, ◌+◌, ◌*◌, ◌<◌, ◌≤◌}
use native.Mathlib.Decide.{dec_lt}
use native.Mathlib.Omega.{arith}
use mathlib.Core.Path.{◌≡◌, refl, sym, ap, ◌∙◌, subst}
use mathlib.Core.Bool.{Bool, true, false, not, ◌&&◌, ◌||◌}
use mathlib.Core.List.{List, [], ◌∷◌, ◌++◌, map}
use mathlib.Core.Logic.{inl, inr}
use mathlib.Core.Option.{Option, none, some}
use borrow.Author.Tests.{ne_eqb, le-ltb, lt-ltb, le-leb}
use lib.Dec.{ltb, leb, eqb}
use lib.IntN.{ℤ}
use lib.ListN.{length, take, drop, take-append-drop}
use lib.Seq.{length-take-le}
use lib.Signed.{le_z, lt_z}
use Rattle.outcome.specs.Outcome.{Outcome, given, refused, unfit, ◌>>◌}
use Rattle.outcome.proofs.Questions.{need_yes}
use Rattle.lines.specs.Lines.{LineLists, row_count, Crossing, crossings, entries, low, high, falls, strays, rowed, ordered, judged}
use Rattle.lines.proofs.Crossings.{Each}
use Rattle.lines.proofs.Items.{length-crossings}
use Rattle.line_cuts.specs.Cuts.{first_part, lowered, second_part}
use Rattle.line_cuts.specs.Places.{FirstFrom, CutAt, OneLength, later, Shown}
use Rattle.line_cuts.proofs.Raised.{eqb_add, ltb_add, leb_add, Under, crossings-below, crossings-append}
use Rattle.line_cuts.proofs.Ordering.{asked, last_of, ordered_nil, ordered_cons, ordered-append, ordered-first, UnderOne, last_under}
use Rattle.line_cuts.proofs.Together.{rows_right, judged-items, rows-first, alike-first, rows_parts}
use Rattle.line_cuts.proofs.CutLaws.{long_alike, first_leads, second_long, rows_in-all}

-- ---- what is shown

then_shown : (u v w : Outcome (Unit {0})) → Shown v w → Shown (u >> v) (u >> w)
then_shown (given tt) v w h = h
then_shown (refused k p) v w h = inl refl
then_shown (unfit k p) v w h = refl

-- the same questions, then what is shown
asked_shown : (n : ℕ) (a b c : Bool) (i : ℕ) (u v : Outcome (Unit {0})) → Shown u (later n v) → Shown (asked a b c (n + i) u) (later n (asked a b c i v))
asked_shown n true true true i u v h = h
asked_shown n true true false i u v h = inl refl
asked_shown n true false c i u v h = inl refl
asked_shown n false b c i u v h = inl refl

-- a line number that falls below r
fall_shown : (n : ℕ) (a b c : Bool) (i : ℕ) (u v : Outcome (Unit {0})) → Shown (asked a b false (n + i) u) (later n (asked a false c i v))
fall_shown n true true c i u v = inr (refl, refl)
fall_shown n true false c i u v = inl refl
fall_shown n false b c i u v = inl refl

-- ---- crossings with their line numbers lowered

abbrev lower : ℕ → Crossing → Crossing
lower r y = record { line = lowered r y.line; at = y.at; shape = y.shape }

abbrev Numbered : List Crossing → Type 0
Numbered ys = Each (λ y. y.line < 4294967296) ys

abbrev Starts : ℕ → List Crossing → Type 0
Starts r [] = Unit {0}
Starts r (y ∷ ys) = r ≤ y.line

module _ (r : ℕ) where
  raised : (l : ℕ) → r ≤ l → l < 4294967296 → l ≡ r + lowered r l
  raised l h k = omega arith

  strays-lower : (rows : ℕ) (y : Crossing) → r ≤ y.line → y.line < 4294967296 → strays (r + rows) y ≡ strays rows (lower r y)
  strays-lower rows y h k =
      ap (λ (l : ℕ). le_z y.at low || (le_z high y.at || leb (r + rows) l)) (raised y.line h k)
      ∙ ap (λ (t : Bool). le_z y.at low || (le_z high y.at || t)) (leb_add r rows (lowered r y.line))

  falls-lower : (x y : Crossing) → r ≤ x.line → x.line < 4294967296 → r ≤ y.line → y.line < 4294967296 → falls (some x) y ≡ falls (some (lower r x)) (lower r y)
  falls-lower x y h k h' k' =
      ap (λ (l : ℕ). ltb l x.line || (eqb l x.line && lt_z y.at x.at)) (raised y.line h' k')
      ∙ ap (λ (m : ℕ). ltb (r + lowered r y.line) m || (eqb (r + lowered r y.line) m && lt_z y.at x.at)) (raised x.line h k)
      ∙ rw (ltb_add r (lowered r y.line) (lowered r x.line), eqb_add r (lowered r y.line) (lowered r x.line))

or-true : (a b : Bool) → (a || (b || true)) ≡ true
or-true true b = refl
or-true false true = refl
or-true false false = refl

module _ (names r rows : ℕ) (few : r + rows ≤ 4294967296) where
  tail_shown : (ys : List Crossing) → Numbered ys → (x : Crossing) → r ≤ x.line → x.line < 4294967296 → (n i : ℕ)
      → Shown (ordered names (r + rows) (some x) (n + i) ys) (later n (ordered names rows (some (lower r x)) i (map (lower r) ys)))
  tail_shown [] k x h s n i = rw (ordered_nil names (r + rows) (some x) (n + i), ordered_nil names rows (some (lower r x)) i) refl
  tail_shown (y ∷ ys) k x h s n i = rw (ordered_cons names (r + rows) (some x) (n + i) y ys, ordered_cons names rows (some (lower r x)) i (lower r y) (map (lower r) ys)) (by (dec_lt y.line r) (tail_shown ys k.1 y))
    where
      small : y.line < 4294967296
      small = k.0

      on : Outcome (Unit {0})
      on = ordered names (r + rows) (some y) (n + i + 1) ys

      on' : Outcome (Unit {0})
      on' = ordered names rows (some (lower r y)) (i + 1) (map (lower r) ys)

      by : Dec (y.line < r) → (r ≤ y.line → y.line < 4294967296 → (n i : ℕ) → Shown (ordered names (r + rows) (some y) (n + i) ys) (later n (ordered names rows (some (lower r y)) i (map (lower r) ys))))
          → Shown (asked (ltb y.shape names) (not (strays (r + rows) y)) (not (falls (some x) y)) (n + i) on) (later n (asked (ltb y.shape names) (not (strays rows (lower r y))) (not (falls (some (lower r x)) (lower r y))) i on'))
      by (no d) ih =
          let from : r ≤ y.line = omega arith in
          let e : n + (i + 1) ≡ n + i + 1 = omega arith in
          rw (strays-lower r rows y from small, falls-lower r x y h s from small)
          (asked_shown n (ltb y.shape names) (not (strays rows (lower r y))) (not (falls (some (lower r x)) (lower r y))) i on on'
          (subst (λ (m : ℕ). Shown (ordered names (r + rows) (some y) m ys) (later n on')) e (ih from small n (i + 1))))
      by (yes d) ih =
          let gone : rows ≤ lowered r y.line = omega arith in
          let down : falls (some x) y ≡ true = rw (lt-ltb y.line x.line (omega arith)) in
          let out : strays rows (lower r y) ≡ true = rw (le-leb rows (lowered r y.line) gone) (or-true (le_z y.at low) (le_z high y.at)) in
          rw (down, out) (fall_shown n (ltb y.shape names) (not (strays (r + rows) y)) (not (falls (some (lower r x)) (lower r y))) i on on')

  -- the first of them is on line r or later: none falls there
  first_shown : (ys : List Crossing) → Numbered ys → Starts r ys → (x : Option Crossing) → UnderOne r x → (n : ℕ)
      → Shown (ordered names (r + rows) x (n + 0) ys) (later n (ordered names rows none 0 (map (lower r) ys)))
  first_shown [] k f x u n = rw (ordered_nil names (r + rows) x (n + 0), ordered_nil names rows none 0) refl
  first_shown (y ∷ ys) k f x u n =
      let e : n + (0 + 1) ≡ n + 0 + 1 = omega arith in
      let on' : Outcome (Unit {0}) = ordered names rows (some (lower r y)) (0 + 1) (map (lower r) ys) in
      rw (ordered_cons names (r + rows) x (n + 0) y ys, ordered_cons names rows none 0 (lower r y) (map (lower r) ys), strays-lower r rows y f k.0, none-falls x u)
      (asked_shown n (ltb y.shape names) (not (strays rows (lower r y))) true 0 (ordered names (r + rows) (some y) (n + 0 + 1) ys) on'
      (subst (λ (m : ℕ). Shown (ordered names (r + rows) (some y) m ys) (later n on')) e (tail_shown ys k.1 y f k.0 n (0 + 1))))
    where
      none-falls : (x : Option Crossing) → UnderOne r x → falls x y ≡ false
      none-falls none u = refl
      none-falls (some x) u = rw (le-ltb y.line x.line (omega arith), ne_eqb y.line x.line (λ q. omega arith))

  all_shown : (xs ys : List Crossing) → Under r xs → Numbered ys → Starts r ys
      → Shown (ordered names (r + rows) none 0 (xs ++ ys)) (ordered names r none 0 xs >> later (length xs) (ordered names rows none 0 (map (lower r) ys)))
  all_shown xs ys u k f =
      let e : 0 + length xs ≡ length xs + 0 = omega arith in
      rw (ordered-append names (r + rows) xs ys none 0, ordered-first names r (r + rows) (omega arith) xs u none 0, e)
      (then_shown (ordered names r none 0 xs) (ordered names (r + rows) (last_of none xs) (length xs + 0) ys) (later (length xs) (ordered names rows none 0 (map (lower r) ys)))
      (first_shown ys k f (last_of none xs) (last_under r xs u none tt) (length xs)))

-- ---- the lists

crossings-lowered : (r : ℕ) (ls : List ℕ) (ps : List ℤ) (ss : List ℕ) → crossings (map (lowered r) ls) ps ss ≡ map (lower r) (crossings ls ps ss)
crossings-lowered r [] ps ss = refl
crossings-lowered r (l ∷ ls) [] ss = refl
crossings-lowered r (l ∷ ls) (p ∷ ps) [] = refl
crossings-lowered r (l ∷ ls) (p ∷ ps) (s ∷ ss) = ap (λ (xs : List Crossing). lower r (record { line = l; at = p; shape = s }) ∷ xs) (crossings-lowered r ls ps ss)

crossings-start : (r : ℕ) (ls : List ℕ) (ps : List ℤ) (ss : List ℕ) → FirstFrom r ls → Starts r (crossings ls ps ss)
crossings-start r [] ps ss h = tt
crossings-start r (l ∷ ls) [] ss h = tt
crossings-start r (l ∷ ls) (p ∷ ps) [] h = tt
crossings-start r (l ∷ ls) (p ∷ ps) (s ∷ ss) h = h

module _ (names r i : ℕ) (c : LineLists) (cut : CutAt names r i c) (named : 0 < names) (h : OneLength c) where
  abbrev fst : LineLists
  fst = first_part names r i c

  abbrev snd : LineLists
  snd = second_part names r i c

  abbrev tail : List Crossing
  tail = crossings (drop i c.lines) (drop i c.positions) (drop i c.shapes)

  entries-cut : entries c ≡ entries fst ++ tail
  entries-cut =
      let lead = (first_leads names r i c cut h).one_length in
      sym
      (sym (crossings-append (take i c.lines) (drop i c.lines) (take i c.positions) (drop i c.positions) (take i c.shapes) (drop i c.shapes) lead.positions_long lead.shapes_long)
      ∙ rw (take-append-drop i c.lines, take-append-drop i c.positions, take-append-drop i c.shapes))

  first_long : length (entries fst) ≡ i
  first_long =
      let lead = (first_leads names r i c cut h).one_length in
      length-crossings (take i c.lines) (take i c.positions) (take i c.shapes) lead.positions_long lead.shapes_long ∙ length-take-le i c.lines cut.between.within

  -- Where the whole is not refused 13 or 14: it is refused as the first part is, or else as the second is, i places further on; but 11 where the second is refused 15 if a line number falls below r.
  pub refused-cut : rowed names c.rows ≡ given tt → Shown (judged names c) (judged names fst >> later i (judged names snd))
  refused-cut e =
      let lead = first_leads names r i c cut h in
      let right = need_yes (rows_right names c.rows) 14 0 e in
      let g = rows_parts names r named fst snd lead (ap (rows_right names) (take-append-drop (r * names) c.rows) ∙ right) in
      let rows : ℕ = row_count names snd.rows in
      rw (
        judged-items names c (long_alike c h) right,
        judged-items names fst (alike-first names r named fst snd lead) g.0,
        judged-items names snd (long_alike snd (second_long names r i c cut h)) g.1,
        sym (rows_in-all names r i c cut named),
        rows-first names r named fst snd lead,
        entries-cut,
        crossings-lowered r (drop i c.lines) (drop i c.positions) (drop i c.shapes),
      )
      (subst (λ (n : ℕ). Shown (ordered names (r + rows) none 0 (entries fst ++ tail)) (ordered names r none 0 (entries fst) >> later n (ordered names rows none 0 (map (lower r) tail)))) first_long
      (all_shown names r rows g.2 (entries fst) tail
      (crossings-below r (take i c.lines) (take i c.positions) (take i c.shapes) cut.between.before)
      (crossings-below 4294967296 (drop i c.lines) (drop i c.positions) (drop i c.shapes) cut.between.numbers)
      (crossings-start r (drop i c.lines) (drop i c.positions) (drop i c.shapes) cut.between.there)))
