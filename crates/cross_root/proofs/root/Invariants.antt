-- `cross_root::root` meets its contract: the next number's square stays above n, and a guess whose square is not above n is the root.
use mathlib.Core.Path.{◌≡◌}
use Prim.Native.Nat.{◌+◌, ◌*◌, ◌/◌, ◌<◌, ◌≤◌}
use Rattle.cross_root.proofs.root.Given as goal

abbrev pub invariant-loop-q : goal.invariant-loop-q
invariant-loop-q l = (0 < l.r) × (l.r ≤ 4294967296) × (l.n < (l.r + 1) * (l.r + 1)) × (l.q ≡ l.n / l.r)

abbrev pub decreases-loop-q : goal.decreases-loop-q
decreases-loop-q l = l.r
