-- How far from zero a drawing's faces reach on an axis, and what that says of their positions.
use Rattle.std.specs.Prelude.{◌*◌, ◌≤◌, ◌≡◌, true, false, Float}
use Rattle.std.specs.Float.{nan, inf, fin}
use Rattle.std.specs.Float.Ieee.{up, down}
use Rattle.cross_positions.specs.Positions.{distance}
use Rattle.cross_shapes.specs.Shapes.{finite, is_zero}
use Rattle.cross_quick.specs.Given.{given}

-- A number is no farther from zero than the reach. What is not finite reaches everything.
abbrev pub Reaches : Float → Float → Type 0
Reaches nan x = Unit {0}
Reaches (inf s) x = Unit {0}
Reaches (fin t n d) nan = ⊥
Reaches (fin t n d) (inf s) = ⊥
Reaches (fin t n d) (fin s m e) = m * up e * down d ≤ n * up d * down e

-- On a line with positions on this axis, each face that is reached has one that may be given.
pub record AllGiven (reach origin component : Float) : Type 0 where
  pub each : is_zero component ≡ false → (face : Float) → finite face ≡ true → Reaches reach face → given (distance face origin component) ≡ true

-- A number, and no sign is set.
abbrev pub Plain : Float → Type 0
Plain nan = ⊥
Plain (inf s) = s ≡ false
Plain (fin s m e) = s ≡ false

-- What reaches a face too, and all that was reached.
pub record Wider (reach face r : Float) : Type 0 where
  pub plain : Plain r
  pub covers : finite face ≡ true → Reaches r face
  pub keeps : (x : Float) → Reaches reach x → Reaches r x
