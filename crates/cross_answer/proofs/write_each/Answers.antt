use Rattle.cross_answer.proofs.WriteLaws.{writing_on}
use Rattle.cross_answer.proofs.write_each.Goals as goal

pub loop-i-preserved : goal.loop-i-preserved
loop-i-preserved g c = (c.loop-i.invariant.0, λ of reads. writing_on of _ _ _ _ _ _ (c.loop-i.invariant.1 of reads) c.loop-i-test.true (reads _ _ (c.type_inv.keys c.loop-i.i).fits c.read.ensures))
