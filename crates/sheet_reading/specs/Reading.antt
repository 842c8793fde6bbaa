-- What reading the sheets of a call answers: document 01, 'The library does four jobs', and document 02, K7 and K10.
use Rattle.std.specs.Prelude.{ℕ, length}
use Rattle.outcome.specs.Outcome.{Outcome, part}
use Rattle.formula.specs.Formula.{leaves}
use Rattle.sheet.specs.Sheet.{Sheets, Sheet, reading}
use Rattle.sheet_reading.specs.declared.Read.{Read}

-- The number of names, the number of leaves, the formula's first offset and the one past its end.
abbrev pub numbers : ℕ → ℕ → ℕ → ℕ → Read
numbers names leaves first past = record { names = names; leaves = leaves; first = first; past = past }

abbrev pub numbers_of : Sheet → Read
numbers_of r = numbers (length r.names) (leaves r.formula) r.first r.past

unfoldable pub told : Sheets → Outcome Read
told c = part numbers_of (reading c)
