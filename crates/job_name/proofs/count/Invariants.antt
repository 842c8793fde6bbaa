-- `job_name::count` meets its contract. The invariant: those counted and those left are all.
use Prim.Native.Nat.{◌-◌}
use lib.ListN.{length}
use Rattle.job_name.specs.Within.{fitted_number}
use Rattle.job_name.proofs.Counting.{Counting}
use Rattle.job_name.proofs.count.Given as goal

abbrev pub invariant-loop-at : goal.invariant-loop-at
invariant-loop-at l = Counting l.fittings (fitted_number l.fittings) l.at l.names

abbrev pub decreases-loop-at : goal.decreases-loop-at
decreases-loop-at l = length l.fittings - l.at
