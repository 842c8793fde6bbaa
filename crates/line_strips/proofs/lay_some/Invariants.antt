-- `line_strips::lay_some` meets its contract.
use Rattle.line_strips.proofs.Lays.{Laying}
use Rattle.line_strips.proofs.lay_some.Given as goal

abbrev pub invariant-loop-i : goal.invariant-loop-i
invariant-loop-i l = Laying l.from.names l.from.rows.now l.from.shape.now l.from.cols.now l.from.lasts.now l.from.part.first l.k l.initial.i l.m l.rest l.one l.i l.initial.words l.words
