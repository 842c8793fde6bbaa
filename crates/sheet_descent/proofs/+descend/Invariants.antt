-- `sheet_descent::descend` meets its contract; the bytes left fall.
use Prim.Native.Nat.{◌-◌}
use lib.ListN.{length}
use Rattle.sheet_descent.proofs.+descend.Given as goal

abbrev pub decreases-descend : goal.decreases-descend
decreases-descend l = length l.formula.now - l.at
