-- The reach as it grows, shape by shape.
use Rattle.std.specs.Prelude.{◌≡◌, true, Float}
use Rattle.cross_shapes.specs.Shapes.{finite}
use Rattle.cross_shapes.specs.declared.Shape.{Shape}
use Rattle.cross_reach.specs.Reach.{Reaches, Plain}
use Rattle.cross_judge.specs.Covering.{Within}
use Rattle.cross_judge.specs.declared.Reach.{Reach}

abbrev pub PlainAll : Reach → Type 0
PlainAll reach = Plain reach.x × (Plain reach.y × Plain reach.z)

-- Two faces more.
pub record Spans (reach low high r : Float) : Type 0 where
  pub plain : Plain r
  pub first : finite low ≡ true → Reaches r low
  pub last : finite high ≡ true → Reaches r high
  pub keeps : (x : Float) → Reaches reach x → Reaches r x

-- A shape more: if all is good it is covered too, and all that was.
pub record Grown (reach : Reach) (shape : Shape) (r : Reach) : Type 0 where
  pub plain : PlainAll r
  pub before : r.good ≡ true → reach.good ≡ true
  pub here : r.good ≡ true → Within r shape
  pub keeps_x : (face : Float) → Reaches reach.x face → Reaches r.x face
  pub keeps_y : (face : Float) → Reaches reach.y face → Reaches r.y face
  pub keeps_z : (face : Float) → Reaches reach.z face → Reaches r.z face
