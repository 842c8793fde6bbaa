-- Crossing by crossing.
use Rattle.line_columns.proofs.WordLaws.{UntilGone}
use Prim.Native.Nat.{◌-◌}
use Rattle.line_columns.proofs.cross_until.Given as goal

abbrev pub invariant-loop-at : goal.invariant-loop-at
invariant-loop-at l = UntilGone l.line l.a l.limit l.stop l.initial.cols l.initial.at l.cols l.at

abbrev pub decreases-loop-at : goal.decreases-loop-at
decreases-loop-at l = l.stop - l.at.next.i
