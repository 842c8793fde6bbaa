-- One after another.
use Rattle.line_runs.specs.Runs.{Ends}
use Rattle.line_runs.proofs.flags.Given as goal

abbrev pub invariant-loop-t : goal.invariant-loop-t
invariant-loop-t l = Ends l.line l.i l.t l.w
