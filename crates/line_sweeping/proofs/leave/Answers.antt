-- Metal past the last column of its line is noted, and ends there.
use Rattle.line_sweeping.proofs.EventLaws.{leave_room, left_open, left_air, left-on}
use borrow.Author.Rules.{rules}
use Rattle.line_sweeping.proofs.leave.Goals as goal
use Rattle.line_sweeping.proofs.leave.Goals.{else-last-via-then-last+else-f, else-last-via-else-last}

pub note-requires : goal.note-requires
note-requires c = search (leave_room, rules)

pub returns-then-f : goal.returns-then-f
returns-then-f c = search (left_open, rules)

pub returns : goal.returns
returns c = elim c.else-last.branch [ else-last-via-then-last+else-f w ↦ search (left_air, rules) | else-last-via-else-last w ↦ search (left-on, rules) ]
