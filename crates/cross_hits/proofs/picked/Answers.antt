use native.Mathlib.Omega.{arith}
use Rattle.cross_hits.proofs.HitLaws.{chosen_starts, chosen_on, chosen_ends}
use borrow.Author.Rules.{rules}
use Rattle.cross_hits.proofs.picked.Goals as goal

pub loop-j-init : goal.loop-j-init
loop-j-init g c = chosen_starts

pub loop-j-preserved : goal.loop-j-preserved
loop-j-preserved g c = chosen_on (omega arith) c.loop-j.invariant c.wanted.ensures c.with_bit-bits.ensures

pub returns : goal.returns
returns g c = chosen_ends 16 (omega arith) (omega arith) c.loop-j.invariant
