-- No flag was seen where all so far hold.
use Rattle.std.proofs.Common.{ℕ, true}
use Rattle.line_events.proofs.EndLaws.{HoldTo}
use Rattle.line_events.proofs.all_hold.Given as goal

abbrev pub invariant-loop-x : goal.invariant-loop-x
invariant-loop-x g l = HoldTo (λ (x : ℕ). g.F.Fn.post l.holds (x, tt) true) l.i l.some l.x
