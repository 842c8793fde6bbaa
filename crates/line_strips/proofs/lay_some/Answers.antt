use borrow.Author.Rules.{rules}
use Rattle.line_bits.proofs.Spans.{one_shifted}
use Rattle.line_strips.proofs.Lays.{laying_none, laying_bit, laying_row, laying_bytes, laying_crossing, laying_named, laying_ends, laying_more, laying_end}
use Rattle.line_strips.proofs.lay_some.Goals as goal

pub loop-i-init : goal.loop-i-init
loop-i-init c = search (laying_none, one_shifted, rules)

pub span_start-requires : goal.span_start-requires
span_start-requires c = (search rules, search rules, search rules, search (laying_bit, rules), search (laying_row, rules), search (laying_bytes, rules))

pub returns-then-o-ge-COLUMNS : goal.returns-then-o-ge-COLUMNS
returns-then-o-ge-COLUMNS c = search (laying_ends, rules)

pub span_crossing-requires : goal.span_crossing-requires
span_crossing-requires c = (search rules, search rules, search rules, search (laying_bit, rules), search (laying_crossing, rules), search (laying_named, rules))

pub loop-i-preserved : goal.loop-i-preserved
loop-i-preserved c = search (laying_more, rules)

pub returns : goal.returns
returns c = search (laying_end, rules)
