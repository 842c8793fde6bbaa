-- Word by word.
use Rattle.line_lists.specs.Block.{planned}
use Rattle.line_columns.proofs.PlanLaws.{Words}
use Rattle.line_columns.proofs.plan_each.Given as goal

abbrev pub invariant-loop-k : goal.invariant-loop-k
invariant-loop-k l = Words l.starts.names l.starts.rows.now l.line l.starts.count l.from.i l.from.q (planned l.cols l.lasts) l.k l.f.c l.f.i l.f.q
