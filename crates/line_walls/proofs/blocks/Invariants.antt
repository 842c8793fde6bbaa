-- Block by block, as long as a crossing or a line's start is left.
use lib.ListN.{length}
use Rattle.line_blocks.specs.Blocks.{call_lists, left_of}
use Rattle.line_writing.specs.Lists.{lists_in, SameLists}
use Rattle.line_walls.proofs.LoopLaws.{Looping}
use Rattle.line_walls.proofs.blocks.Given as goal

abbrev pub invariant-loop-call : goal.invariant-loop-call
invariant-loop-call l =
    Looping l.table l.call.arranged l.call.names (call_lists l.rows l.x) (lists_in l.initial.walls) l.call.count l.initial.words l.words l.desk.cols l.desk.lasts l.desk.events l.p (lists_in l.walls)
    × SameLists l.initial.walls l.walls

abbrev pub decreases-loop-call : goal.decreases-loop-call
decreases-loop-call l = length (left_of l.call.names (call_lists l.rows l.x) l.p.pass)
