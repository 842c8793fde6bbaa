-- The steps from here, over the tokens that are left, come to what they come to from the start.
use Rattle.tree_compress.proofs.StepsLaws.{LongPairing}
use Rattle.tree_compress.proofs.compress.Given as goal

abbrev pub invariant-loop-i : goal.invariant-loop-i
invariant-loop-i l = LongPairing l.tokens l.next l.initial.records l.out l.records l.m l.i l.k
