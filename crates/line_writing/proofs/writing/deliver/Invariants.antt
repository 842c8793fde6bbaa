-- Event by event.
use Rattle.line_writing.specs.Finishing.{held_by}
use Rattle.line_writing.specs.Lists.{lists_in, SameLists}
use Rattle.line_writing.proofs.WriteLaws.{Along}
use Rattle.line_writing.proofs.writing.deliver.Given as goal

abbrev pub invariant-loop-k : goal.invariant-loop-k
invariant-loop-k l = Along (held_by l.x l.a l.cols) l.events l.m l.initial.r (lists_in l.initial.walls) l.k l.r (lists_in l.walls) × SameLists l.initial.walls l.walls
