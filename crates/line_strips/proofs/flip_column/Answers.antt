-- `line_strips::flip_column` meets its contract.
use Rattle.line_strips.proofs.Flips.{row_there, row_bytes, column_start, crossing_there, crossing_named, column_crossing}
use borrow.Author.Rules.{rules}
use Rattle.line_strips.proofs.flip_column.Goals as goal

pub flip_start-requires : goal.flip_start-requires
flip_start-requires c = (search rules, search rules, search (row_there, rules), search (row_bytes, rules))

pub returns-then-o-ge-COLUMNS : goal.returns-then-o-ge-COLUMNS
returns-then-o-ge-COLUMNS c = search (column_start, rules)

pub flip_crossing-requires : goal.flip_crossing-requires
flip_crossing-requires c = (search rules, search rules, search (crossing_there, rules), search (crossing_named, rules))

pub returns : goal.returns
returns c = search (column_crossing, rules)
