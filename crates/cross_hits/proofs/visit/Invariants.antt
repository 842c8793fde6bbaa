-- `cross_hits::visit` meets its contract: the shapes below the bits that are left are gathered or passed.
use Rattle.cross_hits.proofs.VisitLaws.{Walked, Visits}
use Rattle.cross_hits.proofs.visit.Given as goal

abbrev pub invariant-loop-rest : goal.invariant-loop-rest
invariant-loop-rest l = Walked l.block l.bytes l.keys l.rest l.m × Visits l.probe l.alone l.columns.halves l.columns.lows l.ranks.lessers l.ranks.greaters l.initial.bytes l.initial.keys l.block l.bytes l.keys l.rest l.m

abbrev pub decreases-loop-rest : goal.decreases-loop-rest
decreases-loop-rest l = l.rest
