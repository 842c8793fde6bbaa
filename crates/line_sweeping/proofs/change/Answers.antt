-- A column whose bit says something new is noted, once all that stands at its position has acted.
use Rattle.line_sweeping.proofs.EventLaws.{changed-same, change_room, changed-here, changed-later}
use borrow.Author.Rules.{rules}
use Rattle.line_sweeping.proofs.change.Goals as goal
use Rattle.line_sweeping.proofs.change.Goals.{else-metal-f-via-then-metal-f+else-column_ends, else-metal-f-via-else-metal-f}

pub note-requires : goal.note-requires
note-requires c = search (change_room, rules)

pub returns-then-column_ends : goal.returns-then-column_ends
returns-then-column_ends c = search (changed-here, rules)

pub returns : goal.returns
returns c = elim c.else-metal-f.branch [ else-metal-f-via-then-metal-f+else-column_ends w ↦ search (changed-later, rules) | else-metal-f-via-else-metal-f w ↦ search (changed-same, rules) ]
