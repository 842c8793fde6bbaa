-- A sheet of edition 1 with another code at a position: the sheet as edited, document 02, K13.
use Rattle.std.specs.Prelude.{ℕ, ◌+◌, ◌*◌, ◌/◌, ◌%◌, List, set}
use Rattle.formula.specs.Formula.{Formula}
use Rattle.sheet.specs.Sheet.{Sheets, alone, beside, Sheet}

-- Two bytes a code, high byte first, from the formula's first offset on: those at position p are c's.
unfoldable pub recoded : List ℕ → Sheet → ℕ → ℕ → List ℕ
recoded s r p c = set (set s (r.first + 2 * p) (c / 256)) (r.first + 2 * p + 1) (c % 256)

abbrev pub recoded_in : Sheets → Sheet → ℕ → ℕ → Sheets
recoded_in (alone s) r p c = alone (recoded s r p c)
recoded_in (beside f s) r p c = beside f (recoded s r p c)

-- The same names, and another formula in the same place.
abbrev pub with_formula : Formula → Sheet → Sheet
with_formula f r = record { edition = r.edition; names = r.names; formula = f; first = r.first; past = r.past }
