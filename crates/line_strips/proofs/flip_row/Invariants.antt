-- `line_strips::flip_row` meets its contract.
use Prim.Native.Nat.{◌*◌}
use Rattle.line_strips.proofs.Flips.{Rowed}
use Rattle.line_strips.proofs.flip_row.Given as goal

abbrev pub invariant-loop-c : goal.invariant-loop-c
invariant-loop-c l = Rowed l.row l.k l.m (l.c * 32) l.initial.words l.words
