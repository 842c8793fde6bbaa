-- A change of metal stands at its column, an end at the mark.
use Rattle.line_writing.proofs.SpotLaws.{event_change, event_column, bound_change, bound_end}
use borrow.Author.Rules.{rules}
use Rattle.line_writing.proofs.spots.event_bound.Goals as goal

pub column_bound-requires : goal.column_bound-requires
column_bound-requires c = search (event_change, rules)

pub returns-then-e-lt-COLUMNS : goal.returns-then-e-lt-COLUMNS
returns-then-e-lt-COLUMNS c = search (bound_change, rules)

pub column_line-requires : goal.column_line-requires
column_line-requires c = search (event_column, rules)

pub returns : goal.returns
returns c = search (bound_end, rules)
