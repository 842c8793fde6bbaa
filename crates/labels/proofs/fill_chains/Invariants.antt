-- `labels::fill_chains` meets its contract. The loop keeps: the chains of the leaves from j on are filled.
use Rattle.labels.proofs.Fills.{ChainsFrom}
use Rattle.labels.proofs.fill_chains.Given as goal

abbrev pub invariant-loop-j : goal.invariant-loop-j
invariant-loop-j l = ChainsFrom l.records.kinds l.records.firsts l.records.seconds l.fn.size.leaves l.fn.size.nodes l.j l.links
