-- Shape by shape.
use Rattle.line_writing.specs.Groups.{state_of, Least}
use Rattle.line_writing.proofs.shapes.least.Given as goal

abbrev pub invariant-loop-s : goal.invariant-loop-s
invariant-loop-s l = Least l.shapes l.s-index (state_of l.odd) l.r
