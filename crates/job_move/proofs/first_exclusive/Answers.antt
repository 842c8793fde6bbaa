use Rattle.job_move.proofs.Exclusive.{looked_none, looked_here, looked_more, looked_all}
use Rattle.job_move.proofs.first_exclusive.Goals as goal

pub loop-i-init : goal.loop-i-init
loop-i-init c = search looked_none

pub returns-then-two-from : goal.returns-then-two-from
returns-then-two-from c = search looked_here

pub loop-i-preserved : goal.loop-i-preserved
loop-i-preserved c = search looked_more

pub returns : goal.returns
returns c = search looked_all
