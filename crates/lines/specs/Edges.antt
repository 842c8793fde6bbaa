-- That there is a shape to name wherever a wall begins or ends.
use Rattle.std.specs.Prelude.{ℕ, List, [], ◌∷◌}
use Rattle.formula.specs.States.{State}
use Rattle.lines.specs.Lines.{Crossing, shape_at, Wall}
use Rattle.lines.specs.Right.{Bounds}

-- Each wall is bounded at its start and at its end by the shape that is looked up there.
abbrev pub Bound : (ℕ → State) → List Crossing → List Wall → Type 0
Bound start xs [] = Unit {0}
Bound start xs (w ∷ ws) =
    (Bounds start xs w.line w.start (shape_at start xs w.line w.start) × Bounds start xs w.line w.end (shape_at start xs w.line w.end))
    × Bound start xs ws
