-- The start of a line, or a crossing.
use Rattle.line_writing.proofs.SpotLaws.{change_inside, change_group, bound_start, bound_crossing}
use borrow.Author.Rules.{rules}
use Rattle.line_writing.proofs.spots.column_bound.Goals as goal

pub returns-then-o-ge-COLUMNS : goal.returns-then-o-ge-COLUMNS
returns-then-o-ge-COLUMNS c = search (bound_start, rules)

pub overflow_add-a : goal.overflow_add-a
overflow_add-a c = search (change_inside, rules)

pub crossing_bound-requires : goal.crossing_bound-requires
crossing_bound-requires c = search (change_group, rules)

pub returns : goal.returns
returns c = search (bound_crossing, rules)
