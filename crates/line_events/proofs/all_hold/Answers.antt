use Rattle.std.proofs.Common.{ℕ, true}
use native.Mathlib.Omega.{arith}
use borrow.Author.Tests.{eqb-true}
use Rattle.line_events.proofs.EndLaws.{hold_none, hold_more}
use Rattle.line_events.proofs.all_hold.Goals as goal

pub loop-x-init : goal.loop-x-init
loop-x-init g c = hold_none _ _

pub loop-x-preserved : goal.loop-x-preserved
loop-x-preserved g c = hold_more (λ (x : ℕ). g.F.Fn.post c.args.holds (x, tt) true) c.args.i c.loop-x.some c.loop-x.x c.holds.result c.from-some.result c.loop-x.invariant c.from-some.ensures (λ e. rw e at c.holds.ensures)

pub returns : goal.returns
returns g c = λ told x lo hi. c.loop-x.invariant.is (eqb-true c.loop-x.some 0 told) x lo (omega arith)
