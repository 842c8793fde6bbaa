-- `sheet_descent::short_at` meets its contract. The invariant: the codes from here on decide.
use Prim.Native.Nat.{◌+◌, ◌*◌}
use mathlib.Core.Path.{◌≡◌}
use lib.ListN.{drop}
use Rattle.sheet.specs.Sheet.{codes_of}
use Rattle.sheet_descent.specs.Descent.{short_at}
use Rattle.sheet_descent.proofs.short_at.Given as goal

abbrev pub invariant-loop-i : goal.invariant-loop-i
invariant-loop-i l = short_at l.names l.tag l.first (codes_of l.formula) ≡ short_at l.names l.tag (l.first + 2 * l.i) (codes_of (drop (2 * l.i) l.formula))
