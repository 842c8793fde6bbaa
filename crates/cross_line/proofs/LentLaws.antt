-- The shapes that are lent, one by one, and the tests on the probe line.
use mathlib.Core.Path.{◌≡◌, refl, sym, ap, ◌∙◌}
use Prim.Native.Nat.{ℕ, zero, suc, ◌+◌, ◌*◌, ◌<◌}
use native.Mathlib.Omega.{arith}
use mathlib.Core.List.{List, [], ◌∷◌, map}
use borrow.Author.Tests.{ne_eqb}
use lib.ListN.{length, drop, get_or, length-map}
use lib.Seq.{drop-drop, get_or-drop}
use lib.Ieee.{Float, nan, binary64, of_bits}
use Rattle.cross_cuts.specs.Cuts.{fault}
use Rattle.cross_answer.specs.Giving.{InRange}
use Rattle.cross_shapes.specs.Shapes.{shape_cut}
use Rattle.cross_shapes.specs.declared.Probe.{Probe}
use Rattle.cross_shapes.specs.declared.Shape.{Shape}
use Rattle.cross_shapes.specs.declared.Shape.TheVariants.{HalfSpace, Block}
use Rattle.cross_shapes.proofs.RangeLaws.{shape_in_range}
use Rattle.cross_line.specs.Lent.{shape_from, shapes_of}
use Rattle.cross_line.specs.Crossing.{shape_cuts}

-- ---- a number, or a NaN where the list lacks it
pub nan_is : of_bits binary64 9221120237041090560 ≡ nan
unfolding of_bits
nan_is = refl

-- ---- one shape
pub block : (numbers : List Float) (n : ℕ) (a b c d e f : Float) → a ≡ get_or numbers n nan → b ≡ get_or numbers (n + 1) nan → c ≡ get_or numbers (n + 2) nan → d ≡ get_or numbers (n + 3) nan → e ≡ get_or numbers (n + 4) nan → f ≡ get_or numbers (n + 5) nan
    → Block (record { lx = a; ly = b; lz = c; hx = d; hy = e; hz = f }) ≡ shape_from 255 (drop n numbers)
block numbers n a b c d e f ea eb ec ed ee ef =
    let zero-on : n + 0 ≡ n = omega arith in
    sym (rw (get_or-drop n numbers 0 nan, zero-on, get_or-drop n numbers 1 nan, get_or-drop n numbers 2 nan, get_or-drop n numbers 3 nan, get_or-drop n numbers 4 nan, get_or-drop n numbers 5 nan, ← ea, ← eb, ← ec, ← ed, ← ee, ← ef))

module _ (kinds : List ℕ) (numbers : List Float) (i : ℕ) where
  pub is_block : (shape : Shape) → shape ≡ shape_from 255 (drop (6 * i) numbers) → get_or kinds i 0 ≡ 255 → shape ≡ shape_from (get_or kinds i 0) (drop (6 * i) numbers)
  is_block shape e is = rw is e

  pub half_space : (face : Float) → face ≡ get_or numbers (6 * i) nan → (get_or kinds i 0 ≡ 255 → ⊥) → HalfSpace (get_or kinds i 0) face ≡ shape_from (get_or kinds i 0) (drop (6 * i) numbers)
  half_space face first other =
      let zero-on : 6 * i + 0 ≡ 6 * i = omega arith in
      sym (rw (ne_eqb (get_or kinds i 0) 255 other, get_or-drop (6 * i) numbers 0 nan, zero-on, ← first))

-- ---- all of them
length_shapes : (kinds : List ℕ) (numbers : List Float) → length (shapes_of kinds numbers) ≡ length kinds
unfolding shapes_of
length_shapes [] numbers = refl
length_shapes (k ∷ kinds) numbers = ap suc (length_shapes kinds (drop 6 numbers))

pub length-cuts : (probe : Probe) (kinds : List ℕ) (numbers : List Float) → length (shape_cuts probe kinds numbers) ≡ length kinds
length-cuts probe kinds numbers = length-map (shapes_of kinds numbers) (λ shape. shape_cut probe shape) ∙ length_shapes kinds numbers

pub cut_at : (probe : Probe) (kinds : List ℕ) (numbers : List Float) (i : ℕ) → i < length kinds → get_or (shape_cuts probe kinds numbers) i fault ≡ shape_cut probe (shape_from (get_or kinds i 0) (drop (6 * i) numbers))
unfolding shapes_of
cut_at probe [] numbers i h = absurd (omega arith)
cut_at probe (k ∷ kinds) numbers zero h = refl
cut_at probe (k ∷ kinds) numbers (suc i) h =
    let six : 6 + 6 * i ≡ 6 * suc i = omega arith in
    cut_at probe kinds (drop 6 numbers) i (omega arith)
    ∙ ap (λ l. shape_cut probe (shape_from (get_or kinds i 0) l)) (drop-drop (6 * i) 6 numbers ∙ ap (λ n. drop n numbers) six)

pub cuts_in_range : (probe : Probe) (kinds : List ℕ) (numbers : List Float) → InRange (shape_cuts probe kinds numbers)
cuts_in_range probe kinds numbers = by (shapes_of kinds numbers)
  where
    by : (shapes : List Shape) → InRange (map (λ shape. shape_cut probe shape) shapes)
    by [] = tt
    by (s ∷ shapes) = (shape_in_range probe s, by shapes)
