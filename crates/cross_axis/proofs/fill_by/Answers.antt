use native.Mathlib.Omega.{arith}
use Rattle.cross_axis.proofs.AxisLaws.{stepping_starts, stepping_on, stepping_ends}
use borrow.Author.Rules.{rules}
use Rattle.cross_axis.proofs.fill_by.Goals as goal

pub loop-k-init : goal.loop-k-init
loop-k-init g c = stepping_starts

pub loop-k-preserved : goal.loop-k-preserved
loop-k-preserved g c = stepping_on _ _ c.loop-k.auto.k (omega arith) (search rules) (search rules) c.loop-k.invariant c.says-span.ensures

pub returns : goal.returns
returns g c = stepping_ends _ _ c.loop-k-test.false (omega arith) c.loop-k.invariant
