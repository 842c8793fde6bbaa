use borrow.Author.Rules.{rules}
use Rattle.sheet_laying.proofs.Laying.{lays_none, lays_code, lays_room, lays_front, lays_low, lays_leaf, lays_operation, lays_all}
use Rattle.sheet_laying.proofs.lay_first.Goals as goal

pub loop-at-init : goal.loop-at-init
loop-at-init c = search lays_none

pub two-code-requires : goal.two-code-requires
two-code-requires c = search (lays_code, rules)

pub bounds-laid-at : goal.bounds-laid-at
bounds-laid-at c = search (lays_room, rules)

pub settle-held-requires : goal.settle-held-requires
settle-held-requires c = (search rules, search rules, search lays_low)

pub loop-at-preserved-then-code-lt-FIRST_OPERATION : goal.loop-at-preserved-then-code-lt-FIRST_OPERATION
loop-at-preserved-then-code-lt-FIRST_OPERATION c = search (lays_leaf, rules)

pub bounds-laid-held : goal.bounds-laid-held
bounds-laid-held c = search (lays_front, rules)

pub loop-at-preserved : goal.loop-at-preserved
loop-at-preserved c = search (lays_operation, rules)

pub returns : goal.returns
returns c = search lays_all
