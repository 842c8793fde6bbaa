use borrow.Author.Rules.{rules}
use Rattle.line_writing.proofs.TallyLaws.{tally_start, tally_more, tally_end, few_at}
use Rattle.line_writing.proofs.shapes.tally.Goals as goal

pub loop-s-init : goal.loop-s-init
loop-s-init c = search tally_start

pub bounds-odd-k : goal.bounds-odd-k
bounds-odd-k c = search (few_at, rules)

pub loop-s-preserved : goal.loop-s-preserved
loop-s-preserved c = search (tally_more, few_at, rules)

pub returns : goal.returns
returns c = search (tally_end, rules)
