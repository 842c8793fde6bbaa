use Rattle.line_sweeping.proofs.EventLaws.{going_start, going_end, going_low, going_reached, going_rest, going_on}
use borrow.Author.Rules.{rules}
use Rattle.line_sweeping.proofs.sweep_word.Goals as goal

pub loop-c-init : goal.loop-c-init
loop-c-init c = search (going_start, rules)

pub step-f-requires : goal.step-f-requires
step-f-requires c = search (going_reached, rules)

pub is_on-requires : goal.is_on-requires
is_on-requires c = search (going_low, rules)

pub returns-then-e-c : goal.returns-then-e-c
returns-then-e-c c = search (going_rest, rules)

pub loop-c-preserved : goal.loop-c-preserved
loop-c-preserved c = search (going_on, rules)

pub returns : goal.returns
returns c = search (going_end, rules)
