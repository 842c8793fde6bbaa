-- What classifying lines asks of a start row and of one line's crossings: document 02, 'Lines that start in metal'.
use Rattle.std.specs.Prelude.{ℕ, ◌≡◌, Bool, false, ◌&&◌, List, [], ◌∷◌, leb, ltb, ℤ, pos, negsuc, length}
use Rattle.std.specs.Int.Signed.{lt_z}
use Rattle.cross_cuts.specs.Cuts.{LineCrossing, position_of, shape_of}
use Rattle.cross_cuts.specs.Every.{Every}

-- A position between the end marks -2147483648 and 2147483647.
abbrev pub unended : ℤ → Bool
unended p = lt_z (negsuc 2147483647) p && lt_z p (pos 2147483647)

-- No position is below the one before it.
abbrev pub NeverFalls : List LineCrossing → Type 0
NeverFalls [] = Unit {0}
NeverFalls (x ∷ []) = Unit {0}
NeverFalls (x ∷ y ∷ ys) = (lt_z (position_of y) (position_of x) ≡ false) × NeverFalls (y ∷ ys)

-- A byte a shape, each 0 or 1; shapes below the number of shapes, positions between the end marks, and none that falls.
pub record Fit (shapes : ℕ) (starts : List ℕ) (xs : List LineCrossing) : Type 0 where
  pub a_byte_a_shape : length starts ≡ shapes
  pub bytes : Every (λ b. leb b 1) starts
  pub numbers : Every (λ x. ltb (shape_of x) shapes) xs
  pub unended_positions : Every (λ x. unended (position_of x)) xs
  pub never_falls : NeverFalls xs
