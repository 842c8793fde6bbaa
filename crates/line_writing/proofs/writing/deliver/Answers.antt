use borrow.Author.Rules.{rules}
use Rattle.line_writing.proofs.ListLaws.{lists_more}
use Rattle.line_writing.proofs.WriteLaws.{along_more}
use Rattle.line_writing.proofs.writing.deliver.Goals as goal

pub loop-k-preserved : goal.loop-k-preserved
loop-k-preserved c = (along_more c.loop-k.invariant.0 (search rules) c.bound_at-b.ensures c.switch-r.ensures.put, lists_more c.loop-k.invariant.1 c.switch-r.ensures.same)
