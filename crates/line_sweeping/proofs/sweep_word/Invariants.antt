-- From one bit that may be an event to the next.
use Prim.Native.Nat.{◌-◌}
use Rattle.line_sweeping.proofs.EventLaws.{Going}
use Rattle.line_sweeping.proofs.sweep_word.Given as goal

abbrev pub invariant-loop-c : goal.invariant-loop-c
invariant-loop-c l = Going l.b.line.now l.b.at.now l.b.part.first l.b.cols.now l.b.row.now l.b.lasts.now l.b.part.metal l.k l.e l.w l.y l.c l.events l.f

abbrev pub decreases-loop-c : goal.decreases-loop-c
decreases-loop-c l = l.e - l.c
