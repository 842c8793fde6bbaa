use borrow.Author.Rules.{rules}
use Rattle.tree_dwarf.proofs.RoundLaws.{contracting_start, contracting_rooted, contracting_more, contracting_end}
use Rattle.tree_dwarf.proofs.contract.Goals as goal

pub loop-m-init : goal.loop-m-init
loop-m-init c = search (contracting_start, rules)

pub round-m-requires : goal.round-m-requires
round-m-requires c = search (contracting_rooted, rules)

pub loop-m-preserved : goal.loop-m-preserved
loop-m-preserved c = search (contracting_more, rules)

pub returns : goal.returns
returns c = search (contracting_end, rules)
