-- `toggles::flip_leaves` meets its contract. The loop keeps: the leaves before a are flipped, and the nodes above them put into a set.
use Prim.Native.Nat.{◌-◌}
use Rattle.toggles.proofs.Flipping.{Flipping}
use Rattle.toggles.proofs.flip_leaves.Given as goal

abbrev pub invariant-loop-a : goal.invariant-loop-a
invariant-loop-a l = Flipping l.tree.records.now.kinds l.tree.records.now.firsts l.tree.records.now.seconds l.tree.size.leaves l.tree.size.nodes l.tree.links.now l.s l.initial.labels l.a l.labels l.words l.m

abbrev pub decreases-loop-a : goal.decreases-loop-a
decreases-loop-a l = l.tree.size.leaves - l.a
