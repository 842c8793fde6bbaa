-- `cross_judge::reach_of` meets its contract: the first i shapes are covered.
use Rattle.cross_judge.proofs.GrowLaws.{Covering}
use Rattle.cross_judge.proofs.reach_of.Given as goal

abbrev pub invariant-loop-i : goal.invariant-loop-i
invariant-loop-i l = Covering l.drawing.kinds.now l.drawing.numbers.now l.i l.reach
