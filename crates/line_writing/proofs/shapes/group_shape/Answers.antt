use Rattle.line_writing.proofs.GroupLaws.{group_positions, group_shaped, group-alone}
use borrow.Author.Rules.{rules}
use Rattle.line_writing.proofs.shapes.group_shape.Goals as goal

pub stands_first-requires : goal.stands_first-requires
stands_first-requires c = (search rules, search (group_positions, rules))

pub bounds-x-i : goal.bounds-x-i
bounds-x-i c = search (group_shaped, rules)

pub returns-then-stands_first : goal.returns-then-stands_first
returns-then-stands_first c = search (group-alone, rules)
