-- Number by number.
use Rattle.line_runs.specs.Runs.{Numbered}
use Rattle.line_runs.proofs.number.Given as goal

abbrev pub invariant-loop-c : goal.invariant-loop-c
invariant-loop-c l = Numbered l.cols l.c
