use borrow.Author.Rules.{rules}
use Rattle.sheet_laying.proofs.Laying.{settling_begins, some_wait, fewer_wait, settles_here, settling_more}
use Rattle.sheet_laying.proofs.settle.Goals as goal

pub loop-held-init : goal.loop-held-init
loop-held-init c = (search rules, search rules, search settling_begins)

pub overflow_sub-held : goal.overflow_sub-held
overflow_sub-held c = search some_wait

pub loop-held-smaller : goal.loop-held-smaller
loop-held-smaller c = search fewer_wait

pub loop-held-preserved : goal.loop-held-preserved
loop-held-preserved c = (search rules, search rules, search (settling_more, some_wait, rules))

pub returns : goal.returns
returns c = search (settles_here, rules)
