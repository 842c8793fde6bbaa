use Rattle.line_columns.proofs.WordLaws.{word_none, start_ready, word_start, word_crossings, word_over, word_full}
use borrow.Author.Rules.{rules}
use Rattle.line_columns.proofs.plan_word.Goals as goal

pub loop-at-init : goal.loop-at-init
loop-at-init c = search (word_none, rules)

pub start_column-at-requires : goal.start_column-at-requires
start_column-at-requires c = search (start_ready, rules)

pub loop-at-preserved-then-is_start : goal.loop-at-preserved-then-is_start
loop-at-preserved-then-is_start c = search (word_start, rules)

pub returns-then-at-line : goal.returns-then-at-line
returns-then-at-line c = search (word_over, rules)

pub loop-at-preserved : goal.loop-at-preserved
loop-at-preserved c = search (word_crossings, rules)

pub returns : goal.returns
returns c = search (word_full, rules)
