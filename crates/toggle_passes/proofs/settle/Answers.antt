use lib.Dec.{lit<}
use borrow.Author.Rules.{rules}
use Rattle.toggle_passes.proofs.Settles.{fewer, settling_start, settling_few, settling_fits, settling_ripe, settling_on, settling_ends}
use Rattle.toggle_passes.proofs.settle.Goals as goal

pub loop-m-init : goal.loop-m-init
loop-m-init c = search settling_start

pub rework_node-requires : goal.rework_node-requires
rework_node-requires c = search (settling_ripe, rules)

pub overflow_add-count : goal.overflow_add-count
overflow_add-count c = search (settling_fits, lit<)

pub loop-m-smaller : goal.loop-m-smaller
loop-m-smaller c = search (fewer, settling_few, lit<)

pub loop-m-preserved : goal.loop-m-preserved
loop-m-preserved c = search settling_on

pub returns : goal.returns
returns c = search settling_ends
