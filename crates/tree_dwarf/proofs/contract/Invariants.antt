-- Of any tree that the tokens are of, what is left to do comes to the whole.
use Rattle.tree_dwarf.proofs.RoundLaws.{Contracting}
use Rattle.tree_dwarf.proofs.contract.Given as goal

abbrev pub invariant-loop-m : goal.invariant-loop-m
invariant-loop-m l = Contracting l.initial.a l.fn.planted l.initial.records l.a l.records l.m l.rounds

abbrev pub decreases-loop-m : goal.decreases-loop-m
decreases-loop-m l = l.m.at
