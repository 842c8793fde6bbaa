use Rattle.labels.proofs.Links.{next-after, parent_after}
use Rattle.toggle_passes.proofs.Upwards.{nearer}
use Rattle.toggles.proofs.Flipping.{leaf-inside, flipping_start, flipping_more, flipping_end}
use Rattle.toggles.proofs.flip_leaves.Goals as goal

pub loop-a-init : goal.loop-a-init
loop-a-init c = search flipping_start

pub loop-a-smaller : goal.loop-a-smaller
loop-a-smaller c = search (nearer, next-after, parent_after, leaf-inside)

pub loop-a-preserved : goal.loop-a-preserved
loop-a-preserved c = search flipping_more

pub returns : goal.returns
returns c = search flipping_end
