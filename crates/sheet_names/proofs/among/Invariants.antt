-- `sheet_names::among` meets its contract. The invariant: the name is taken exactly if it is among those that are left to walk.
use mathlib.Core.Path.{◌≡◌}
use Rattle.sheet.specs.Sheet as paper
use Rattle.sheet.specs.Walk.{walk_names}
use Rattle.sheet_names.specs.Keys.{Walkable}
use Rattle.sheet_names.proofs.among.Given as goal

abbrev pub invariant-loop-left : goal.invariant-loop-left
invariant-loop-left l = Walkable l.sheet l.at l.left × (paper.taken (walk_names l.sheet 5 l.names) l.name ≡ paper.taken (walk_names l.sheet l.at l.left) l.name)

abbrev pub decreases-loop-left : goal.decreases-loop-left
decreases-loop-left l = l.left
