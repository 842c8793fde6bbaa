use borrow.Author.Rules.{rules}
use Rattle.tree_dwarf.proofs.DwarfedLaws.{planted_rooted, built, dwarfed_bounded}
use Rattle.tree_dwarf.proofs.build_tree.Goals as goal

pub contract-done-requires : goal.contract-done-requires
contract-done-requires c = search (planted_rooted, rules)

pub returns-clause-bounded : goal.returns-clause-bounded
returns-clause-bounded c =
    dwarfed_bounded
    (built c.plant-leaves.ensures c.contract-done.ensures c.height.ensures.long (search rules) (search rules) (search rules) (search rules))
    c.requires.codes_few.1
    c.requires.codes_few.0
    (search rules)

pub returns-clause-dwarfed : goal.returns-clause-dwarfed
returns-clause-dwarfed c = built c.plant-leaves.ensures c.contract-done.ensures c.height.ensures.long (search rules) (search rules) (search rules) (search rules)
