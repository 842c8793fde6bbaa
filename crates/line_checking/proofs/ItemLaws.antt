-- What is asked of one item.
use Prim.Native.Nat.{ℕ, zero, suc, ◌+◌, ◌-◌, ◌<◌}
use native.Mathlib.Nat.{not-suc-le-zero}
use native.Mathlib.Numerals.{sub-one}
use native.Mathlib.Omega.{arith}
use mathlib.Core.Path.{◌≡◌, refl, sym, ◌∙◌}
use mathlib.Core.Bool.{Bool, true, false, true≢false, ◌||◌, ◌&&◌}
use mathlib.Core.List.{List}
use borrow.Author.Tests.{ltb-true, ltb-false, lt-ltb}
use lib.Dec.{ltb, leb, eqb}
use lib.IntN.{ℤ, pos}
use lib.ListN.{get_or}
use lib.Signed.{lt_z, le_z}
use Rattle.lines.specs.Lines.{Crossing, low, high, falls, strays}
use Rattle.lines.specs.AtIndex.{item}
use Rattle.line_checking.specs.Items.{prior, falls_at, at_mark, NoneStray}

-- a line with no row, and a position that is an end mark or not
pub strays_by : (rows : ℕ) (y : Crossing) (m n : Bool) → m ≡ at_mark y.at → n ≡ leb rows y.line → strays rows y ≡ (m || n)
strays_by rows y m n e f = rw (e, f) (grouped (le_z y.at low) (le_z high y.at) (leb rows y.line))
  where
    grouped : (a b d : Bool) → (a || (b || d)) ≡ ((a || b) || d)
    grouped true b d = refl
    grouped false b d = refl

-- neither
pub left_off : (x y : Bool) → (x || y) ≡ false → x ≡ false
left_off true y e = e
left_off false y e = refl

pub right_off : (x y : Bool) → (x || y) ≡ false → y ≡ false
right_off true y e = absurd (true≢false e)
right_off false y e = e

module _ (ls : List ℕ) (ps : List ℤ) where
  pub falls_by : (i : ℕ) (down : Bool) → 0 < i → down ≡ lt_z (get_or ps i (pos 0)) (get_or ps (i - 1) (pos 0)) → (ltb (get_or ls i 0) (get_or ls (i - 1) 0) || (eqb (get_or ls i 0) (get_or ls (i - 1) 0) && down)) ≡ falls_at ls ps i
  unfolding falls_at
  falls_by zero down h e = absurd (not-suc-le-zero h)
  falls_by (suc i) down h e = rw (e, sub-one)

  pub falls_first : (i : ℕ) → i ≡ 0 → false ≡ falls_at ls ps i
  unfolding falls_at
  falls_first zero e = refl
  falls_first (suc i) e = absurd (omega arith)

  pub falls-line : (i : ℕ) → 0 < i → get_or ls i 0 < get_or ls (i - 1) 0 → falls_at ls ps i ≡ true
  falls-line i h k = sym (falls_by i (lt_z (get_or ps i (pos 0)) (get_or ps (i - 1) (pos 0))) h refl) ∙ rw (lt-ltb (get_or ls i 0) (get_or ls (i - 1) 0) k)

  -- the shape does not matter
  pub falls_any : (ss : List ℕ) (i : ℕ) → falls (prior ls ps ss i) (item ls ps ss i) ≡ falls_at ls ps i
  unfolding falls_at
  falls_any ss zero = refl
  falls_any ss (suc i) = refl

  pub none_yet : (found : Bool) → NoneStray ls ps 1 found
  none_yet found = record { each = λ t i h k. absurd (omega arith) }

  pub none_more : (i : ℕ) (found s : Bool) → NoneStray ls ps i found → s ≡ (falls_at ls ps i || at_mark (get_or ps i (pos 0))) → NoneStray ls ps (i + 1) (found || s)
  none_more i found s n is = record { each = λ t j h k. each t j h k (ltb j i) refl }
    where
      each : (found || s) ≡ false → (j : ℕ) → 0 < j → j < i + 1 → (t : Bool) → ltb j i ≡ t → (falls_at ls ps j || at_mark (get_or ps j (pos 0))) ≡ false
      each t j h k true e = n.each (left_off found s t) j h (ltb-true j i e)
      each t j h k false e = let same : j ≡ i = omega (arith, ltb-false j i e) in rw same (sym is ∙ right_off found s t)
