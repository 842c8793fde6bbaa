-- How far a drawing reaches on each axis, and what that says of a line.
use Rattle.std.specs.Prelude.{ℕ, ◌*◌, ◌<◌, ◌≤◌, ◌≡◌, true, List, length, drop, get_or, Float}
use Rattle.outcome.specs.Outcome.{given}
use Rattle.cross_shapes.specs.Shapes.{finite, on, good_pair}
use Rattle.cross_shapes.specs.declared.Probe.{Probe}
use Rattle.cross_shapes.specs.declared.Shape.{Shape}
use Rattle.cross_shapes.specs.declared.Shape.TheVariants.{HalfSpace, Block}
use Rattle.cross_line.specs.Lent.{shape_from}
use Rattle.cross_drawn.specs.Asking.{line_judged}
use Rattle.cross_reach.specs.Reach.{Reaches}
use Rattle.cross_judge.specs.declared.Reach.{Reach}

-- A half-space is sound, and its face is reached on its axis.
pub record FaceWithin (reach : Reach) (axis : ℕ) (face : Float) : Type 0 where
  pub an_axis : axis ≤ 2
  pub a_number : finite face ≡ true
  pub reached : Reaches (on axis reach.x reach.y reach.z) face

-- On one axis a box is sound, and both its faces are reached.
pub record PairWithin (reach low high : Float) : Type 0 where
  pub sound : good_pair low high ≡ true
  pub first : Reaches reach low
  pub last : Reaches reach high

abbrev pub Within : Reach → Shape → Type 0
Within reach (HalfSpace axis face) = FaceWithin reach axis face
Within reach (Block b) = PairWithin reach.x b.lx b.hx × (PairWithin reach.y b.ly b.hy × PairWithin reach.z b.lz b.hz)

-- If the reach is good, the first n shapes are sound, and it covers their faces.
pub record Covers (kinds : List ℕ) (numbers : List Float) (n : ℕ) (reach : Reach) : Type 0 where
  pub each : reach.good ≡ true → (i : ℕ) → i < n → Within reach (shape_from (get_or kinds i 0) (drop (6 * i) numbers))

-- The line is not at fault, whatever drawing the reach covers.
pub record NoFault (probe : Probe) (reach : Reach) : Type 0 where
  pub right : (kinds : List ℕ) (numbers : List Float) → Covers kinds numbers (length kinds) reach → line_judged kinds numbers probe ≡ given tt
