use Rattle.labels.proofs.Links.{parent_after}
use Rattle.toggle_passes.proofs.Upwards.{nearer, walking_start, walking_stop, walking_on, walking_end, few_stopped, few_walked}
use Rattle.toggle_passes.proofs.walk.Goals as goal

pub loop-p-init : goal.loop-p-init
loop-p-init c = search walking_start

pub returns-then-v-labels-clause-few : goal.returns-then-v-labels-clause-few
returns-then-v-labels-clause-few c = search few_stopped

pub returns-then-v-labels-clause-by_index : goal.returns-then-v-labels-clause-by_index
returns-then-v-labels-clause-by_index c = search walking_stop

pub loop-p-smaller : goal.loop-p-smaller
loop-p-smaller c = search (nearer, parent_after)

pub loop-p-preserved : goal.loop-p-preserved
loop-p-preserved c = search walking_on

pub returns-clause-few : goal.returns-clause-few
returns-clause-few c = search few_walked

pub returns-clause-by_index : goal.returns-clause-by_index
returns-clause-by_index c = search walking_end
