-- `cross_answer::write_starts` meets its contract: the first i are given, and the rest is as it was.
use mathlib.Core.Path.{◌≡◌}
use lib.ListN.{take}
use Rattle.outcome.specs.Lent.{filled}
use Rattle.cross_answer.proofs.write_starts.Given as goal

abbrev pub invariant-loop-i : goal.invariant-loop-i
invariant-loop-i l = l.starts ≡ filled (take l.i l.bytes) l.initial.starts
