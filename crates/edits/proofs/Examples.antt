-- The node of each position of the worked sheet, computed.
use mathlib.Core.Path.{◌≡◌, refl}
use Rattle.formula.specs.Formula.{union, difference, Formula, leaf, node}
use Rattle.edits.specs.Edits.{apart, node_at}

-- A B C union difference: the operations stand at positions 3 and 4, their nodes are E, number 3, and R, number 4.
abbrev worked-sheet : Formula
worked-sheet = node difference (leaf 0) (node union (leaf 1) (leaf 2))

nodes_of_positions : (node_at worked-sheet 3 ≡ 3) × (node_at worked-sheet 4 ≡ 4) × (node_at worked-sheet 2 ≡ 65535)
unfolding node_at apart
nodes_of_positions = (refl, refl, refl)
