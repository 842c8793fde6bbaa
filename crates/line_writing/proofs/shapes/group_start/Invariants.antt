-- Crossing by crossing, back from i.
use Rattle.line_writing.proofs.GroupLaws.{Back}
use Rattle.line_writing.proofs.shapes.group_start.Given as goal

abbrev pub invariant-loop-h : goal.invariant-loop-h
invariant-loop-h l = Back l.x.line.now l.x.at.now l.i l.h
