-- `job_move::give_front` meets its contract: the first i are given, and the rest is as it was.
use mathlib.Core.Path.{◌≡◌}
use lib.ListN.{take}
use Rattle.outcome.specs.Lent.{filled}
use Rattle.job_move.proofs.give_front.Given as goal

abbrev pub invariant-loop-i : goal.invariant-loop-i
invariant-loop-i l = l.moved ≡ filled (take l.i l.front) l.initial.moved
