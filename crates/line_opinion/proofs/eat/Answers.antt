use borrow.Author.Rules.{rules}
use Rattle.line_opinion.proofs.EatLaws.{even, going_none, eat_wrong, eat_whole, eat_part, eat_end}
use Rattle.line_opinion.proofs.eat.Goals as goal

pub loop-j-init : goal.loop-j-init
loop-j-init c = search (going_none, rules)

pub returns-then-not-fits_at : goal.returns-then-not-fits_at
returns-then-not-fits_at c = search (eat_wrong, even, rules)

pub returns-then-v-end : goal.returns-then-v-end
returns-then-v-end c = search (eat_whole, even, rules)

pub loop-j-preserved : goal.loop-j-preserved
loop-j-preserved c = search (eat_part, even, rules)

pub returns : goal.returns
returns c = search (eat_end, even, rules)
