use borrow.Author.Rules.{rules}
use Rattle.line_writing.proofs.TallyLaws.{least_start, least_more, least_end, few_at}
use Rattle.line_writing.proofs.shapes.least.Goals as goal

pub loop-s-init : goal.loop-s-init
loop-s-init c = search least_start

pub lesser-r-requires : goal.lesser-r-requires
lesser-r-requires c = search (few_at, rules)

pub loop-s-preserved : goal.loop-s-preserved
loop-s-preserved c = search (least_more, rules)

pub returns : goal.returns
returns c = search (least_end, rules)
