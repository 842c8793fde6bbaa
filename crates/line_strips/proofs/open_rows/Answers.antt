use borrow.Author.Rules.{rules}
use Rattle.line_strips.proofs.Opens.{opening_none, opening_more, opening_row, opening_fits, opening_end}
use Rattle.line_strips.proofs.open_rows.Goals as goal

pub loop-s-init : goal.loop-s-init
loop-s-init c = search (opening_none, rules)

pub bounds-words-s : goal.bounds-words-s
bounds-words-s c = search (opening_fits, rules)

pub open_row-requires : goal.open_row-requires
open_row-requires c = search (opening_row, rules)

pub loop-s-preserved : goal.loop-s-preserved
loop-s-preserved c = search (opening_more, rules)

pub returns : goal.returns
returns c = search (opening_end, rules)
