-- One line's crossings from the drawing's own numbers: document 02, K4.
use Rattle.std.specs.Prelude.{ℕ, Bool, not, ◌&&◌, List, map, leb, length, Float}
use Rattle.outcome.specs.Outcome.{Outcome, need, ◌>>◌}
use Rattle.cross_cuts.specs.Cuts.{Cut, answered}
use Rattle.cross_shapes.specs.Shapes.{finite, is_zero, shape_cut}
use Rattle.cross_shapes.specs.declared.Probe.{Probe}
use Rattle.cross_line.specs.Lent.{shapes_of}

-- "A number not finite, or a direction all zero."
abbrev pub all_three : (Float → Bool) → Float → Float → Float → Bool
all_three holds a b c = holds a && (holds b && holds c)

unfoldable pub good_probe : Probe → Bool
good_probe probe =
    all_three finite probe.ox probe.oy probe.oz
    && (all_three finite probe.dx probe.dy probe.dz && not (all_three is_zero probe.dx probe.dy probe.dz))

-- What the line has of each shape.
abbrev pub shape_cuts : Probe → List ℕ → List Float → List Cut
shape_cuts probe kinds numbers = map (λ shape. shape_cut probe shape) (shapes_of kinds numbers)

-- "16 for more than 256 shapes (place 256), then for the line (place 65535), then for the first shape at fault (place the shape's number);
-- then 9 for start row, positions and shapes in turn."
unfoldable pub crossing_shapes : Probe → List ℕ → List Float → ℕ → ℕ → ℕ → Outcome (List Cut)
crossing_shapes probe kinds numbers starts positions shapes = do
  need (leb (length kinds) 256) 16 256
  need (good_probe probe) 16 65535
  answered 16 (shape_cuts probe kinds numbers) starts positions shapes
