-- The first i codes are planted.
use Rattle.tree_dwarf.proofs.PlantLaws.{PlantingAt}
use Rattle.tree_dwarf.proofs.plant.Given as goal

abbrev pub invariant-loop-i : goal.invariant-loop-i
invariant-loop-i l = PlantingAt l.codes l.a l.records l.next l.i
