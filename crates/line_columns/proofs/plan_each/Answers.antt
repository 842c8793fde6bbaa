use Rattle.line_columns.proofs.PlanLaws.{words_none, words_next, words_more, words_full, words_over}
use borrow.Author.Rules.{rules}
use Rattle.line_columns.proofs.plan_each.Goals as goal

pub loop-k-init : goal.loop-k-init
loop-k-init c = search (words_none, rules)

pub plan_word-f-requires : goal.plan_word-f-requires
plan_word-f-requires c = search (words_next, rules)

pub returns-then-f-k : goal.returns-then-f-k
returns-then-f-k c = search (words_over, rules)

pub loop-k-preserved : goal.loop-k-preserved
loop-k-preserved c = search (words_more, rules)

pub returns : goal.returns
returns c = search (words_full, rules)
