-- What is asked of one of many lines, and of the lists lent for the answer.
use Rattle.std.specs.Prelude.{ℕ, List, length, Float}
use Rattle.outcome.specs.Outcome.{Outcome, need, room, ◌>>◌}
use Rattle.lines.specs.Lines.{LineLists}
use Rattle.cross_cuts.specs.Cuts.{faultless}
use Rattle.cross_shapes.specs.declared.Probe.{Probe}
use Rattle.cross_line.specs.Crossing.{good_probe, shape_cuts}

-- "16, place 65535 for the line, else its first shape at fault."
unfoldable pub line_judged : List ℕ → List Float → Probe → Outcome (Unit {0})
line_judged kinds numbers probe = do
  need (good_probe probe) 16 65535
  faultless 16 0 (shape_cuts probe kinds numbers)

-- "Then 9 for rows, lines, positions, shapes, place the entries needed."
unfoldable pub list_room : LineLists → LineLists → Outcome (Unit {0})
list_room answer lent = do
  room (length answer.rows) (length lent.rows)
  room (length answer.lines) (length lent.lines)
  room (length answer.positions) (length lent.positions)
  room (length answer.shapes) (length lent.shapes)
