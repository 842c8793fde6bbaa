use Rattle.job_name.proofs.Counting.{count-start, count-inside, count_few, count_next, count-done}
use borrow.Author.Rules.{rules}
use Rattle.job_name.proofs.count.Goals as goal

pub loop-at-init : goal.loop-at-init
loop-at-init c = search count-start

pub past-at-requires : goal.past-at-requires
past-at-requires c = search count-inside

pub overflow_add-names : goal.overflow_add-names
overflow_add-names c = search (count_few, rules)

pub loop-at-preserved : goal.loop-at-preserved
loop-at-preserved c = search count_next

pub returns : goal.returns
returns c = search count-done
