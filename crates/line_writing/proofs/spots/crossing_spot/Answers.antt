use Rattle.line_writing.proofs.GroupLaws.{group-placed}
use borrow.Author.Rules.{rules}
use Rattle.line_writing.proofs.spots.crossing_spot.Goals as goal

pub bounds-x-i : goal.bounds-x-i
bounds-x-i c = search (group-placed, rules)
