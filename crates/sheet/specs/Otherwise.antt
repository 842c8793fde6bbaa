-- The reading with other answers in the clauses that never decide: 257 fields used up, an end before the formula, and a formula in a fittings
-- sheet. `proofs/Enough.antt` shows that every sheet is read the same.
use Rattle.std.specs.Prelude.{ℕ, zero, suc, ◌+◌, false, List, []}
use Rattle.outcome.specs.Outcome.{Outcome, ◌>>=◌}
use Rattle.sheet.specs.Sheet.{Sheet, Setting, Field, name_field, formula_field, end_field, most_names, field_at, onward, fitting_at, onward_fitting}

-- The fields of a customer's sheet.
module _ (w : Setting) (s : List ℕ) (used-up : ℕ → Outcome Sheet) (no_formula : Outcome Sheet) where
  abbrev pub onward_by : (ℕ → List (List ℕ) → Outcome Sheet) → List (List ℕ) → Field → Outcome Sheet
  onward_by on ns (name_field x past) = onward w on s ns (name_field x past)
  onward_by on ns (formula_field f first past) = onward w on s ns (formula_field f first past)
  onward_by on ns end_field = no_formula

  unfoldable pub fields_by : ℕ → ℕ → List (List ℕ) → Outcome Sheet
  fields_by zero at ns = used-up at
  fields_by (suc k) at ns = field_at w s at ns false >>= onward_by (fields_by k) ns

module _ (fittings : List (List ℕ)) (s : List ℕ) (used-up : ℕ → Outcome Sheet) (no_formula : Outcome Sheet) where
  abbrev pub fields_after : ℕ → Outcome Sheet
  fields_after said = fields_by (record { fittings = fittings; edition = said }) s used-up no_formula (most_names + 1) 5 []

-- The fields of a fittings sheet.
module _ (s : List ℕ) (used-up a-formula : ℕ → Outcome (List (List ℕ))) where
  abbrev pub onward_fitting_by : (ℕ → List (List ℕ) → Outcome (List (List ℕ))) → ℕ → List (List ℕ) → Field → Outcome (List (List ℕ))
  onward_fitting_by on at ns (name_field x past) = onward_fitting on at ns (name_field x past)
  onward_fitting_by on at ns (formula_field f first past) = a-formula at
  onward_fitting_by on at ns end_field = onward_fitting on at ns end_field

  unfoldable pub fitting_fields_by : ℕ → ℕ → List (List ℕ) → Outcome (List (List ℕ))
  fitting_fields_by zero at ns = used-up at
  fitting_fields_by (suc k) at ns = fitting_at s at ns >>= onward_fitting_by (fitting_fields_by k) at ns
