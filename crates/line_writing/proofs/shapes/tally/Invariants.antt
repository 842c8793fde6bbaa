-- Shape by shape.
use Rattle.line_writing.specs.Groups.{Tallied}
use Rattle.line_writing.proofs.shapes.tally.Given as goal

abbrev pub invariant-loop-s : goal.invariant-loop-s
invariant-loop-s l = Tallied l.shapes l.s-index l.initial.odd l.odd
