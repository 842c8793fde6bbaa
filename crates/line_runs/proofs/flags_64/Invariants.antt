-- Eight at a time.
use Prim.Native.Nat.{◌*◌}
use Rattle.line_runs.specs.Runs.{Ends}
use Rattle.line_runs.proofs.flags_64.Given as goal

abbrev pub invariant-loop-k : goal.invariant-loop-k
invariant-loop-k l = Ends l.line l.i (8 * l.k) l.w
