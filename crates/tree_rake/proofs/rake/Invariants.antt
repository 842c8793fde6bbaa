-- The arrays hold what the steps come to after the first i tokens, and no array is filled further than i.
use Rattle.tree_rake.proofs.StepsLaws.{LongRaking}
use Rattle.tree_rake.proofs.rake.Given as goal

abbrev pub invariant-loop-t : goal.invariant-loop-t
invariant-loop-t l = LongRaking l.tokens l.next l.initial.records l.out l.st l.records l.m l.t-index
