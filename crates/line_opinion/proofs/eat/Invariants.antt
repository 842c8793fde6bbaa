-- Entry by entry.
use Rattle.line_opinion.specs.Eating.{lists_of, needed}
use Rattle.line_opinion.proofs.EatLaws.{Going}
use Rattle.line_opinion.proofs.eat.Given as goal

abbrev pub invariant-loop-j : goal.invariant-loop-j
invariant-loop-j l = Going (lists_of l.list) l.first (needed l.fn.wall) l.j (needed l.v)
