-- `labels::fill_parents` meets its contract. The loop keeps: the parents among the nodes from j on are filled.
use Rattle.labels.proofs.Fills.{ParentsFrom}
use Rattle.labels.proofs.fill_parents.Given as goal

abbrev pub invariant-loop-j : goal.invariant-loop-j
invariant-loop-j l = ParentsFrom l.records.kinds l.records.firsts l.records.seconds l.fn.size.nodes l.j l.initial.links l.links
