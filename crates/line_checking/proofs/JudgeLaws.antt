-- The rows, and the judgement as a whole.
use Prim.Native.Nat.{ℕ, zero, suc, ◌<◌, ◌≤◌}
use native.Mathlib.Nat.{not-suc-le-zero, le_of_suc-le-suc}
use native.Mathlib.Omega.{arith}
use mathlib.Core.Path.{◌≡◌, refl, sym, ◌∙◌}
use mathlib.Core.Bool.{Bool, true, false, and-false}
use mathlib.Core.List.{List, [], ◌∷◌}
use borrow.Author.Tests.{le-leb, lt-leb, leb-true, leb-false, ltb-true, ltb-false}
use lib.Dec.{leb, ltb}
use lib.ListN.{get_or, length}
use Rattle.lines.specs.Lines.{bits}
use Rattle.line_checking.specs.Verdicts.{InAir}
use Rattle.line_lists.specs.Greatest.{Greatest}

bits_yes : (rows : List ℕ) → ((j : ℕ) → j < length rows → get_or rows j 0 ≤ 1) → bits rows ≡ true
unfolding bits
bits_yes [] h = refl
bits_yes (b ∷ bs) h = rw (le-leb b 1 (h 0 (omega arith))) (bits_yes bs (λ j k. h (suc j) (omega arith)))

bits_no : (rows : List ℕ) (j : ℕ) → j < length rows → 1 < get_or rows j 0 → bits rows ≡ false
unfolding bits
bits_no [] j h k = absurd (not-suc-le-zero h)
bits_no (b ∷ bs) zero h k = rw (lt-leb b 1 k)
bits_no (b ∷ bs) (suc j) h k = rw (bits_no bs j (le_of_suc-le-suc h) k) (and-false (leb b 1))

module _ (rows : List ℕ) (most : ℕ) (g : Greatest rows (length rows) most) where
  pub bits_by : leb most 1 ≡ bits rows
  bits_by = by (leb most 1) refl
    where
      by : (t : Bool) → leb most 1 ≡ t → leb most 1 ≡ bits rows
      by true e = e ∙ sym (bits_yes rows (λ j h. omega (arith, g.above j h, leb-true most 1 e)))
      by false e =
          let high : 1 < most = leb-false most 1 e in
          let f = g.among (omega arith) in
          e ∙ sym (bits_no rows f.0 f.1 (omega (arith, f.2)))

  pub air_by : most ≡ 0 → InAir rows
  air_by z = record { zeros = λ i. at i (ltb i (length rows)) refl }
    where
      past : (xs : List ℕ) (i : ℕ) → length xs ≤ i → get_or xs i 0 ≡ 0
      past [] i k = refl
      past (x ∷ xs) zero k = absurd (not-suc-le-zero k)
      past (x ∷ xs) (suc i) k = past xs i (le_of_suc-le-suc k)

      at : (i : ℕ) (t : Bool) → ltb i (length rows) ≡ t → get_or rows i 0 ≡ 0
      at i true e = omega (arith, g.above i (ltb-true i (length rows) e))
      at i false e = past rows i (ltb-false i (length rows) e)
