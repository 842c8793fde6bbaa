-- `job_move::count_exclusive` meets its contract.
use Rattle.job_move.proofs.Exclusive.{Counted}
use Rattle.job_move.proofs.count_exclusive.Given as goal

abbrev pub invariant-loop-code : goal.invariant-loop-code
invariant-loop-code l = Counted l.codes l.code-index l.many
