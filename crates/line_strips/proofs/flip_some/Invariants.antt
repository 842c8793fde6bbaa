-- `line_strips::flip_some` meets its contract.
use Rattle.line_strips.proofs.Flips.{FlippedTo}
use Rattle.line_strips.proofs.flip_some.Given as goal

abbrev pub invariant-loop-s : goal.invariant-loop-s
invariant-loop-s l = FlippedTo l.row l.k l.m l.a l.s l.e l.initial.words l.words
