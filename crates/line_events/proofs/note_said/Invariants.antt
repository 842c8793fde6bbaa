-- From one bit that is on to the next.
use Rattle.line_events.proofs.SaidLaws.{Noting}
use Rattle.line_events.proofs.note_said.Given as goal

abbrev pub invariant-loop-d : goal.invariant-loop-d
invariant-loop-d l = Noting l.changes l.opens l.k l.initial.events l.count l.d l.events l.n

abbrev pub decreases-loop-d : goal.decreases-loop-d
decreases-loop-d l = l.d
