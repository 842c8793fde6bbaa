-- The paths of the first i nodes are worked out, and the last of them is the height so far.
use Rattle.tree_height.proofs.PathLaws.{PathsAt}
use Rattle.tree_height.proofs.height.Given as goal

abbrev pub invariant-loop-i : goal.invariant-loop-i
invariant-loop-i l = PathsAt l.records l.paths l.last l.i
