use borrow.Author.Rules.{rules}
use Rattle.line_strips.proofs.Opens.{row_none, row_more, row_fits, row_second, row_end}
use Rattle.line_strips.proofs.open_row.Goals as goal

pub loop-k-init : goal.loop-k-init
loop-k-init c = search (row_none, rules)

pub bounds-words-s : goal.bounds-words-s
bounds-words-s c = search (row_fits, rules)

pub loop-k-preserved : goal.loop-k-preserved
loop-k-preserved c = search (row_more, rules)

pub bounds-words-s-2 : goal.bounds-words-s-2
bounds-words-s-2 c = search (row_fits, rules)

pub bounds-words-s-3 : goal.bounds-words-s-3
bounds-words-s-3 c = search (row_second, rules)

pub returns : goal.returns
returns c = search (row_end, rules)
