-- `job_name::after` meets its contract. The invariant: the walk over the names that are left, from `at` on, ends where the whole walk ends.
use mathlib.Core.Path.{◌≡◌}
use Prim.Native.Nat.{◌≤◌}
use lib.ListN.{length}
use Rattle.sheet.specs.Walk.{walk_end}
use Rattle.job_name.proofs.after.Given as goal

abbrev pub invariant-loop-left : goal.invariant-loop-left
invariant-loop-left l = (walk_end l.sheet l.at l.left ≤ length l.sheet) × (walk_end l.sheet 5 l.n ≡ walk_end l.sheet l.at l.left)

abbrev pub decreases-loop-left : goal.decreases-loop-left
decreases-loop-left l = l.left
