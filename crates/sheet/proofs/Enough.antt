-- Two clauses of the reading never decide: 257 fields are never used up, and no end comes before the formula; nor do two of a fittings
-- sheet's, where no formula comes. Whatever those clauses answered, every sheet would be read the same.
use Prim.Native.Nat.{ℕ, zero, suc, ◌+◌, ◌≤◌}
use native.Mathlib.Omega.{arith}
use mathlib.Core.Path.{◌≡◌, refl}
use mathlib.Core.Bool.{false}
use mathlib.Core.List.{List, [], ◌∷◌, ◌++◌}
use mathlib.Core.Logic.{◌⊎◌, inl, inr}
use lib.ListN.{length, length-append}
use Rattle.outcome.specs.Outcome.{Outcome, given, refused, unfit, ◌>>=◌, ◌>>◌}
use Rattle.sheet.specs.Sheet.{Sheet, Setting, unaided, Field, name_field, formula_field, end_field, fittings_edition, last_edition, most_names, header, field_at, onward, fields, own, fitting_at, onward_fitting, fitting_fields, fitting_names}
use Rattle.sheet.specs.Otherwise.{onward_by, fields_by, fields_after, onward_fitting_by, fitting_fields_by}
use Rattle.sheet.proofs.Fields.{IsName, IsFormula, IsEnd, field-given, fitting_given}

-- ---- the fields of a customer's sheet

module _ (w : Setting) (s : List ℕ) (used-up : ℕ → Outcome Sheet) (no_formula : Outcome Sheet) where
  module _ (by on : ℕ → List (List ℕ) → Outcome Sheet) (at : ℕ) (ns : List (List ℕ))
      (ih : (e : ℕ) (ms : List (List ℕ)) → length ms ≡ length ns + 1 → length ms ≤ most_names → by e ms ≡ on e ms) where
    onward-same : (v : Field) → IsName w s at ns v ⊎ IsFormula w s at ns v → onward_by w s used-up no_formula by ns v ≡ onward w on s ns v
    onward-same (name_field x e) (inl i) = let l = length-append ns (x ∷ []) in ih e (ns ++ (x ∷ [])) (omega arith) (omega (arith, l, i.room))
    onward-same (name_field x e) (inr i) = let h = i.is in let z : ◌≡◌ {A = ℕ} 0 1 = cc h in absurd (omega arith)
    onward-same (formula_field f a e) i = refl
    onward-same end_field (inl i) = let h = i.is in let z : ◌≡◌ {A = ℕ} 0 1 = cc h in absurd (omega arith)
    onward-same end_field (inr i) = let h = i.is in let z : ◌≡◌ {A = ℕ} 0 1 = cc h in absurd (omega arith)

    after_same : (o : Outcome Field) → field_at w s at ns false ≡ o → (o >>= onward_by w s used-up no_formula by ns) ≡ (o >>= onward w on s ns)
    after_same (given v) q = onward-same v (field-given w s at ns v q)
    after_same (refused k p) q = refl
    after_same (unfit k p) q = refl

  fields-same : (k : ℕ) (at : ℕ) (ns : List (List ℕ)) → most_names + 1 ≤ length ns + k → length ns ≤ most_names → fields_by w s used-up no_formula k at ns ≡ fields w k s at ns
  unfolding fields fields_by
  fields-same zero at ns far few = absurd (omega arith)
  fields-same (suc k) at ns far few =
      after_same (fields_by w s used-up no_formula k) (fields w k s) at ns (λ e ms l h. fields-same k e ms (omega arith) h) (field_at w s at ns false) refl

  fields-enough : fields_by w s used-up no_formula (most_names + 1) 5 [] ≡ fields w (most_names + 1) s 5 []
  fields-enough = fields-same (most_names + 1) 5 [] (omega arith) (omega arith)

module _ (fittings : List (List ℕ)) (s : List ℕ) (used-up : ℕ → Outcome Sheet) (no_formula : Outcome Sheet) where
  enough_by : (o : Outcome ℕ) → (o >>= fields_after fittings s used-up no_formula) ≡ (o >>= λ said. fields (record { fittings = fittings; edition = said }) (most_names + 1) s 5 [])
  enough_by (given said) = fields-enough (record { fittings = fittings; edition = said }) s used-up no_formula
  enough_by (refused k p) = refl
  enough_by (unfit k p) = refl

  pub enough : (header last_edition s >>= fields_after fittings s used-up no_formula) ≡ own fittings s
  unfolding own
  enough = enough_by (header last_edition s)

-- ---- the fields of a fittings sheet

module _ (s : List ℕ) (used-up a-formula : ℕ → Outcome (List (List ℕ))) where
  module _ (by on : ℕ → List (List ℕ) → Outcome (List (List ℕ))) (at : ℕ) (ns : List (List ℕ))
      (ih : (e : ℕ) (ms : List (List ℕ)) → length ms ≡ length ns + 1 → length ms ≤ most_names → by e ms ≡ on e ms) where
    onward_fitting-same : (v : Field) → IsName unaided s at ns v ⊎ IsEnd s at ns v → onward_fitting_by s used-up a-formula by at ns v ≡ onward_fitting on at ns v
    onward_fitting-same (name_field x e) (inl i) = let l = length-append ns (x ∷ []) in ih e (ns ++ (x ∷ [])) (omega arith) (omega (arith, l, i.room))
    onward_fitting-same (name_field x e) (inr i) = let h = i.is in let z : ◌≡◌ {A = ℕ} 0 1 = cc h in absurd (omega arith)
    onward_fitting-same (formula_field f a e) (inl i) = let h = i.is in let z : ◌≡◌ {A = ℕ} 0 1 = cc h in absurd (omega arith)
    onward_fitting-same (formula_field f a e) (inr i) = let h = i.is in let z : ◌≡◌ {A = ℕ} 0 1 = cc h in absurd (omega arith)
    onward_fitting-same end_field i = refl

    fitting_after-same : (o : Outcome Field) → fitting_at s at ns ≡ o → (o >>= onward_fitting_by s used-up a-formula by at ns) ≡ (o >>= onward_fitting on at ns)
    fitting_after-same (given v) q = onward_fitting-same v (fitting_given s at ns v q)
    fitting_after-same (refused k p) q = refl
    fitting_after-same (unfit k p) q = refl

  fitting_fields-same : (k : ℕ) (at : ℕ) (ns : List (List ℕ)) → most_names + 1 ≤ length ns + k → length ns ≤ most_names → fitting_fields_by s used-up a-formula k at ns ≡ fitting_fields k s at ns
  unfolding fitting_fields fitting_fields_by
  fitting_fields-same zero at ns far few = absurd (omega arith)
  fitting_fields-same (suc k) at ns far few =
      fitting_after-same (fitting_fields_by s used-up a-formula k) (fitting_fields k s) at ns (λ e ms l h. fitting_fields-same k e ms (omega arith) h) (fitting_at s at ns) refl

  pub fittings-enough : (header fittings_edition s >> fitting_fields_by s used-up a-formula (most_names + 1) 5 []) ≡ fitting_names s
  unfolding fitting_names
  fittings-enough = rw (fitting_fields-same (most_names + 1) 5 [] (omega arith) (omega arith))
