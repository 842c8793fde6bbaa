use borrow.Author.Rules.{rules}
use Rattle.tree_dwarf.proofs.PlantLaws.{planting_start_lem, planting_end}
use Rattle.tree_dwarf.proofs.plant.Goals as goal

pub loop-i-init : goal.loop-i-init
loop-i-init c = planting_start_lem

pub returns : goal.returns
returns c = search (planting_end, rules)
