-- Block by block, as long as a crossing or a line's start is left and no entry is wrong.
use lib.ListN.{length}
use Rattle.line_blocks.specs.Blocks.{call_lists, left_of}
use Rattle.line_opinion.specs.Eating.{lists_of}
use Rattle.line_judge.specs.Blocks.{own_lists}
use Rattle.line_judge.proofs.JudgeLaws.{Looping}
use Rattle.line_judge.proofs.blocks.Given as goal

abbrev pub invariant-loop-call : goal.invariant-loop-call
invariant-loop-call l = Looping l.table l.call.arranged l.call.names (call_lists l.rows l.x) (lists_of l.list) l.call.count l.initial.words l.words l.desk.cols l.desk.lasts l.desk.events l.p l.next (own_lists l.own)

abbrev pub decreases-loop-call : goal.decreases-loop-call
decreases-loop-call l = length (left_of l.call.names (call_lists l.rows l.x) l.p.pass)
