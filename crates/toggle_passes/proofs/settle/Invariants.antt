-- `toggle_passes::settle` meets its contract. The loop keeps: the pass that is left is that of the definition.
use Prim.Native.Nat.{◌-◌}
use Rattle.rising_set.specs.Members.{all}
use Rattle.toggle_passes.proofs.Settles.{Settling}
use Rattle.toggle_passes.proofs.settle.Given as goal

abbrev pub invariant-loop-m : goal.invariant-loop-m
invariant-loop-m l = Settling l.tree.records.now.kinds l.tree.records.now.firsts l.tree.records.now.seconds l.tree.size.leaves l.tree.size.nodes l.tree.links.now l.initial.labels (all l.initial.words l.initial.m) l.labels l.words l.m l.count

abbrev pub decreases-loop-m : goal.decreases-loop-m
decreases-loop-m l = 3072 - l.count
