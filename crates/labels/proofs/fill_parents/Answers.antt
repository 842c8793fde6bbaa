use Rattle.labels.proofs.Fills.{parents_start, parents_more, parents_end, parents_kept}
use Rattle.labels.proofs.fill_parents.Goals as goal

pub loop-j-init : goal.loop-j-init
loop-j-init c = search parents_start

pub loop-j-preserved : goal.loop-j-preserved
loop-j-preserved c = search parents_more

pub returns-clause-parents : goal.returns-clause-parents
returns-clause-parents c = search parents_end

pub returns-clause-above : goal.returns-clause-above
returns-clause-above c = search parents_kept
