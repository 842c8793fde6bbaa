use borrow.Author.Rules.{rules}
use Rattle.job_move.proofs.Exclusive.{counted_none, counted_fits, counted_more, counted_all}
use Rattle.job_move.proofs.count_exclusive.Goals as goal

pub loop-code-init : goal.loop-code-init
loop-code-init c = search counted_none

pub overflow_add-many : goal.overflow_add-many
overflow_add-many c = record { fits = search (counted_fits, rules) }

pub loop-code-preserved : goal.loop-code-preserved
loop-code-preserved c = search (counted_more, rules)

pub returns : goal.returns
returns c = search counted_all
