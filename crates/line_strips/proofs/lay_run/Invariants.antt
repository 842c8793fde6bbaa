-- `line_strips::lay_run` meets its contract.
use Rattle.line_strips.proofs.Lays.{Running}
use Rattle.line_strips.proofs.lay_run.Given as goal

abbrev pub invariant-loop-i : goal.invariant-loop-i
invariant-loop-i l = Running l.from.shape.now l.from.lasts.now l.from.part.first l.k l.m l.rest l.one l.i l.initial.words l.words
