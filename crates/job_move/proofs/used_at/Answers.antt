-- `job_move::used_at` meets its contract.
use Rattle.job_move.proofs.Used.{used_two, used_none, used_fits, used_nowhere, used_double, used_place, used_some}
use borrow.Author.Rules.{rules}
use Rattle.job_move.proofs.used_at.Goals as goal

pub returns-then-sheet-eq2 : goal.returns-then-sheet-eq2
returns-then-sheet-eq2 c = search used_two

pub returns-then-count_exclusive-eq0 : goal.returns-then-count_exclusive-eq0
returns-then-count_exclusive-eq0 c = search used_none

pub overflow_sub-first : goal.overflow_sub-first
overflow_sub-first c = search used_fits

pub overflow_mul-result : goal.overflow_mul-result
overflow_mul-result c = record { fits = search (used_double, rules) }

pub overflow_add-result : goal.overflow_add-result
overflow_add-result c = record { fits = search (used_place, rules) }

pub returns : goal.returns
returns c = search (used_some, rules)

pub returns-in_err-i : goal.returns-in_err-i
returns-in_err-i c =
    let h = c.in_err-i.ensures in
    rw c.from_residual.ensures (search used_nowhere)
