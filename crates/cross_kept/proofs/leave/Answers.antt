use borrow.Author.Rules.{rules}
use native.Mathlib.Omega.{arith}
use Rattle.cross_hits.proofs.HitLaws.{chosen_picked}
use Rattle.cross_kept.proofs.KeepLaws.{leaving-starts, leaving-on, leaving-ends}
use Rattle.cross_kept.proofs.leave.Goals as goal

pub loop-b-init : goal.loop-b-init
loop-b-init c = search (leaving-starts, rules)

pub loop-b-preserved : goal.loop-b-preserved
loop-b-preserved c = leaving-on c.loop-b.invariant (omega arith) _ (chosen_picked _ (λ j b p. search rules) c.picked-over.ensures) c.with_bit-left.ensures

pub returns : goal.returns
returns c = leaving-ends _ _ (omega arith) c.from.ensures c.loop-b.invariant
