-- `sheet_laying::settle` meets its contract. The invariant: what waits now decides as what waited at first.
use Prim.Native.Nat.{◌≤◌}
use mathlib.Core.Path.{◌≡◌}
use lib.ListN.{length}
use Rattle.sheet_laying.proofs.Laying.{Settling}
use Rattle.sheet_laying.proofs.settle.Given as goal

abbrev pub invariant-loop-held : goal.invariant-loop-held
invariant-loop-held l = (l.held.many ≤ l.initial.held.many) × (length l.laid ≡ 2048) × Settling l.initial.laid l.initial.held.many l.initial.held.last l.laid l.held.many l.held.last l.at

abbrev pub decreases-loop-held : goal.decreases-loop-held
decreases-loop-held l = l.held.many
