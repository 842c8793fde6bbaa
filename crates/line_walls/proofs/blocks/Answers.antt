use Rattle.line_blocks.proofs.PassLaws.{pass_whole, pass_said}
use Rattle.line_walls.proofs.LoopLaws.{looping_start, looping_ask, looping_sized, looping_more, looping_end}
use Rattle.line_writing.proofs.ListLaws.{lists_none, lists_more}
use borrow.Author.Rules.{rules}
use Rattle.line_walls.proofs.blocks.Goals as goal

pub begin-p-requires : goal.begin-p-requires
begin-p-requires c = (search (pass_whole, rules), search pass_said)

pub loop-call-init : goal.loop-call-init
loop-call-init c = (search looping_start, lists_none)

pub step-p-requires : goal.step-p-requires
step-p-requires c = (looping_ask c.loop-call.invariant.0 c.is_left.ensures c.loop-call-test.true, looping_sized c.loop-call.invariant.0, search rules)

pub loop-call-smaller : goal.loop-call-smaller
loop-call-smaller c = c.step-p.ensures.step.fewer

pub loop-call-preserved : goal.loop-call-preserved
loop-call-preserved c = (looping_more c.loop-call.invariant.0 c.step-p.ensures.step, lists_more c.loop-call.invariant.1 c.step-p.ensures.same)

pub returns-clause-written : goal.returns-clause-written
returns-clause-written c = looping_end c.loop-call.invariant.0 c.is_left.ensures c.loop-call-test.false

pub returns-clause-same : goal.returns-clause-same
returns-clause-same c = c.loop-call.invariant.1
