-- `toggle_run::toggle_each` meets its contract. The loop keeps: the first i toggles are done.
use mathlib.Core.Path.{◌≡◌}
use lib.ListN.{length, take}
use Rattle.contraction.specs.Entries.{recs}
use Rattle.toggle_run.proofs.Filling.{Running}
use Rattle.toggle_run.proofs.toggle_each.Given as goal

abbrev pub invariant-loop-i : goal.invariant-loop-i
invariant-loop-i l = Running (recs l.tree.records.now.kinds l.tree.records.now.firsts l.tree.records.now.seconds 0 l.tree.size.nodes) (take l.tree.size.nodes l.initial.labels) l.toggles l.initial.roots l.initial.counts l.i (take l.tree.size.nodes l.labels) l.roots l.counts × (length l.labels ≡ 3072)
