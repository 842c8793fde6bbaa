-- What one field's reading answers: the paper's values for each case.
use Rattle.std.specs.Prelude.{ℕ, List, length, leb}
use Rattle.outcome.specs.Outcome.{Outcome, need}
use Rattle.formula.specs.Formula.{leaves}
use Rattle.sheet.specs.Sheet as paper
use Rattle.sheet.specs.Sheet.{name_field, formula_field, end_field, between}
use Rattle.sheet_names.specs.Keys.{key_of}
use Rattle.sheet_fields.specs.declared.Field.{Field}
use Rattle.sheet_fields.specs.declared.Field.TheVariants.{Name, Formula, End}

-- Of a name, its bytes, the offset past them and its key; of the formula, its leaves, its first offset and the one past its end.
pub data Seen : Type 0 where
  name : List ℕ → ℕ → ℕ → Seen
  formula : ℕ → ℕ → ℕ → Seen
  finish : Seen

abbrev pub seen : paper.Field → Seen
seen (name_field x past) = name x past (key_of x)
seen (formula_field f first past) = formula (leaves f) first past
seen end_field = finish

-- A field of the sheet s, as it is answered.
abbrev pub shown : List ℕ → Field → Seen
shown s (Name first past key) = name (between s first past) past key
shown s (Formula first past leaves) = formula leaves first past
shown s End = finish

-- Whether nothing stands after the formula.
abbrev pub end_at : List ℕ → ℕ → Outcome (Unit {0})
end_at s at = need (leb (length s) at) 2 at
