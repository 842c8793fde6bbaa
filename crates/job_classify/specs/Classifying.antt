-- Classifying lines: what the job gives for the sheets of a call, the start rows and the crossing lists, and the answer lists as lent.
use Rattle.std.specs.Prelude.{List, length}
use Rattle.outcome.specs.Outcome.{Outcome, ◌>>=◌}
use Rattle.sheet.specs.Sheet.{Sheets}
use Rattle.accepting.specs.Accepting.{accepted}
use Rattle.lines.specs.Lines.{LineLists, AnswerLists, Wall, classified}

-- The walls, or the first reason met: the sheets and the height; 13; 14; 10, 15 and 11 item by item; then 9 for line, start, end, start shape, end shape.
unfoldable pub classifying : Sheets → LineLists → AnswerLists → Outcome (List Wall)
classifying c lines lent = do
  sheet ← accepted c
  classified sheet.formula (length sheet.names) lines lent
