-- `toggle_passes::walk` meets its contract. The loop keeps: one node is due, and the pass that is left is that of the definition.
use Prim.Native.Nat.{◌-◌}
use Rattle.toggle_passes.proofs.Upwards.{Walking}
use Rattle.toggle_passes.proofs.walk.Given as goal

abbrev pub invariant-loop-p : goal.invariant-loop-p
invariant-loop-p l = Walking l.tree.records.now.kinds l.tree.records.now.firsts l.tree.records.now.seconds l.tree.size.leaves l.tree.size.nodes l.tree.links.now l.node l.initial.labels l.p l.labels l.count

abbrev pub decreases-loop-p : goal.decreases-loop-p
decreases-loop-p l = l.tree.size.nodes - l.p
