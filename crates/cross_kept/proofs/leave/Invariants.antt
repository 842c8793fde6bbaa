-- `cross_kept::leave` meets its contract: the first b sixteens.
use Rattle.cross_kept.proofs.KeepLaws.{Leaving}
use Rattle.cross_kept.proofs.leave.Given as goal

abbrev pub invariant-loop-b : goal.invariant-loop-b
invariant-loop-b l = Leaving l.columns.halves l.ranks.lessers l.ranks.greaters l.masks l.left l.b
