-- `cross_answer::write_each` meets its contract: the first i are written, and the rest is as it was.
use Prim.Native.Nat.{ℕ}
use lib.ListN.{length}
use Rattle.cross_answer.specs.Giving.{Reads}
use Rattle.cross_answer.proofs.WriteLaws.{Writing}
use Rattle.cross_answer.proofs.write_each.Given as goal

abbrev pub invariant-loop-i : goal.invariant-loop-i
invariant-loop-i g l = goal.F-IsAlwaysCallable g l.read × ((of : ℕ → _) → Reads (goal.F-post g l.read) of → Writing of l.keys l.initial.entries (length l.keys) l.entries l.i)
