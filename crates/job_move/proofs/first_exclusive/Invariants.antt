-- `job_move::first_exclusive` meets its contract. What is left decides.
use Rattle.job_move.proofs.Exclusive.{Looked}
use Rattle.job_move.proofs.first_exclusive.Given as goal

abbrev pub invariant-loop-i : goal.invariant-loop-i
invariant-loop-i l = Looked l.formula l.i
