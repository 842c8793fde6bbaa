-- `line_strips::replay` meets its contract.
use Rattle.line_strips.specs.Filling.{flips_of}
use Rattle.line_strips.proofs.Opens.{Replaying}
use Rattle.line_strips.proofs.replay.Given as goal

abbrev pub invariant-loop-i : goal.invariant-loop-i
invariant-loop-i l = Replaying l.from.names (flips_of l.from.names l.from.rows.now l.from.shape.now l.from.cols.now l.from.part.first) l.k l.m l.c l.i l.initial.words l.words
