use mathlib.Core.Path.{refl}
use Rattle.line_blocks.proofs.PassLaws.{pass_whole, pass_said}
use Rattle.line_judge.proofs.JudgeLaws.{looping_start, looping_sized, looping_ask, looping_less, looping_long, looping_more, looping_wrong, looping_over, looping_right}
use Rattle.line_opinion.proofs.EatLaws.{even}
use borrow.Author.Rules.{rules}
use Rattle.line_judge.proofs.blocks.Goals as goal

pub begin-p-requires : goal.begin-p-requires
begin-p-requires c = (search (pass_whole, rules), search pass_said)

pub loop-call-init : goal.loop-call-init
loop-call-init c = search (looping_start, even)

pub own_step-p-requires : goal.own_step-p-requires
own_step-p-requires c = (looping_ask c.loop-call.invariant c.is_left.ensures refl c.loop-call-test.true, search looping_sized, search rules)

pub loop-call-smaller : goal.loop-call-smaller
loop-call-smaller c = looping_less c.loop-call.invariant refl c.own_step-p.ensures

pub loop-call-preserved : goal.loop-call-preserved
loop-call-preserved c = looping_more c.loop-call.invariant refl c.own_step-p.ensures c.eat_all.ensures c.in-Ok.is

pub shape_of-words-in-Err : goal.shape_of-words-in-Err
shape_of-words-in-Err c = looping_long c.loop-call.invariant refl c.own_step-p.ensures

pub returns-in-Err : goal.returns-in-Err
returns-in-Err c = looping_wrong c.loop-call.invariant refl c.own_step-p.ensures c.eat_all.ensures c.in-Err.is

pub returns-then-next-list : goal.returns-then-next-list
returns-then-next-list c = search looping_over

pub returns : goal.returns
returns c = search looping_right
