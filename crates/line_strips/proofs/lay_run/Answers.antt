use borrow.Author.Rules.{rules}
use Rattle.line_bits.proofs.Spans.{one_first}
use Rattle.line_strips.proofs.Lays.{running_none, running_bit, running_there, running_named, running_more, running_end}
use Rattle.line_strips.proofs.lay_run.Goals as goal

pub loop-i-init : goal.loop-i-init
loop-i-init c = search (running_none, one_first, rules)

pub span_crossing-requires : goal.span_crossing-requires
span_crossing-requires c = (search rules, search rules, search rules, search (running_bit, rules), search (running_there, rules), search (running_named, rules))

pub loop-i-preserved : goal.loop-i-preserved
loop-i-preserved c = search (running_more, rules)

pub returns : goal.returns
returns c = search (running_end, rules)
