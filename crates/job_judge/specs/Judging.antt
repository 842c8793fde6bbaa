-- Judging another ray caster's wall list: what the job gives for the sheets of a call, the start rows and the crossing lists, and their list.
use Rattle.std.specs.Prelude.{length}
use Rattle.outcome.specs.Outcome.{Outcome, ◌>>=◌}
use Rattle.sheet.specs.Sheet.{Sheets}
use Rattle.accepting.specs.Accepting.{accepted}
use Rattle.lines.specs.Lines.{LineLists}
use Rattle.line_opinion.specs.Judging.{TheirLists, Opinion, judgement}

-- The opinion, or the first reason met: the sheets and the height; 13, of crossings and of theirs; 14; 10, 15 and 11 item by item.
unfoldable pub judging : Sheets → LineLists → TheirLists → Outcome Opinion
judging c lines theirs = do
  sheet ← accepted c
  judgement sheet.formula (length sheet.names) lines theirs
