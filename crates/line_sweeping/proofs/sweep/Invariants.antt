-- Word by word.
use Rattle.line_sweeping.proofs.EventLaws.{Worded}
use Rattle.line_sweeping.proofs.sweep.Given as goal

abbrev pub invariant-loop-k : goal.invariant-loop-k
invariant-loop-k l = Worded l.b.line.now l.b.at.now l.b.part.first l.b.cols.now l.b.row.now l.b.lasts.now l.b.part.metal l.n l.k l.events l.f
