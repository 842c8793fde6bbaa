-- The line of a start, or of a crossing.
use Rattle.line_writing.proofs.SpotLaws.{column_inside, line-start-held, line_crossing-held}
use borrow.Author.Rules.{rules}
use Rattle.line_writing.proofs.spots.column_line.Goals as goal

pub returns-then-o-ge-COLUMNS : goal.returns-then-o-ge-COLUMNS
returns-then-o-ge-COLUMNS c = search (line-start-held, rules)

pub bounds-line-a : goal.bounds-line-a
bounds-line-a c = search (column_inside, rules)

pub returns : goal.returns
returns c = search (line_crossing-held, rules)
