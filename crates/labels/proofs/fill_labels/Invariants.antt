-- `labels::fill_labels` meets its contract. The loop keeps: the labels of the first j nodes are filled.
use Rattle.labels.proofs.Fills.{LabelsTo}
use Rattle.labels.proofs.fill_labels.Given as goal

abbrev pub invariant-loop-j : goal.invariant-loop-j
invariant-loop-j l = LabelsTo l.records.kinds l.records.firsts l.records.seconds l.fn.size.nodes l.j l.labels
