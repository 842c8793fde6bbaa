-- `cross_line::gather` meets its contract: the first i are gathered, and what is left decides which is at fault.
use Prim.Native.Nat.{ℕ}
use mathlib.Core.Path.{◌≡◌}
use mathlib.Core.List.{List}
use lib.ListN.{length}
use Rattle.cross_cuts.specs.Cuts.{Cut}
use Rattle.cross_cuts.specs.Keys.{Held, Going}
use Rattle.cross_line.specs.Making.{Meets}
use Rattle.cross_line.proofs.gather.Given as goal

abbrev pub invariant-loop-i : goal.invariant-loop-i
invariant-loop-i g l =
    Held (length l.initial.bytes) l.bytes l.keys l.i l.m
    × ((number : ℕ) (cuts : List Cut) → l.n ≡ length cuts → Meets (goal.F-post g l.meet) cuts → Going (length l.initial.bytes) number cuts l.bytes l.keys l.i l.m)
