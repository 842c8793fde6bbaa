-- `sheet_codes::judge` meets its contract. The invariant: the codes from i on decide, with so many operands waiting and so many leaves passed.
use mathlib.Core.Path.{◌≡◌}
use Prim.Native.Nat.{◌≤◌, ◌+◌, ◌*◌}
use lib.ListN.{drop}
use Rattle.outcome.specs.Outcome.{part}
use Rattle.formula.specs.Formula.{leaves as leaves_of}
use Rattle.sheet.specs.Sheet.{codes_of, formula_of}
use Rattle.sheet_codes.specs.Operands.{counted_leaves}
use Rattle.sheet_codes.proofs.judge.Given as goal

abbrev pub invariant-loop-i : goal.invariant-loop-i
invariant-loop-i l = (l.waiting ≤ l.i) × (l.leaves ≤ l.i)
    × (part leaves_of (formula_of l.names l.tag l.first (codes_of l.codes)) ≡ counted_leaves l.names l.tag (l.first + 2 * l.i) (codes_of (drop (2 * l.i) l.codes)) l.waiting l.leaves)
