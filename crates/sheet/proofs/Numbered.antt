-- No refusal of the sheets of a call has number 0.
use Prim.Native.Nat.{ℕ, zero, suc, ◌+◌}
use mathlib.Core.Bool.{Bool, true, false}
use mathlib.Core.List.{List, [], ◌∷◌, ◌++◌}
use mathlib.Core.Option.{Option, none, some}
use lib.Dec.{ltb, eqb, lit<}
use Rattle.outcome.specs.Outcome.{Outcome, given, part, of_fittings}
use Rattle.outcome.specs.Numbered.{Numbered}
use Rattle.outcome.proofs.NumberedLaws.{given-numbered, refused-numbered, asks, then_numbered, bind_numbered, part-numbered, cond-numbered, fittings-numbered}
use Rattle.formula.specs.Formula.{Op, Formula, leaf}
use Rattle.formula.specs.Codes.{operation}
use Rattle.sheet.specs.Sheet.{Sheets, alone, beside, Sheet, Setting, Field, name_field, formula_field, end_field, joined, one_code, all_codes, only_one, formula_of, joined_first, operated, all_first, formula_first, formula_in, header, name_at, formula_at, field_at, onward, fields, own, fitting_at, onward_fitting, fitting_fields, fitting_names, reading}

-- ---- codes

joined-numbered : (at : ℕ) (o : Option Op) (fs : List Formula) → Numbered (joined at o fs)
joined-numbered at none fs = search (refused-numbered, lit<)
joined-numbered at (some o) [] = search (refused-numbered, lit<)
joined-numbered at (some o) (r ∷ []) = search (refused-numbered, lit<)
joined-numbered at (some o) (r ∷ l ∷ fs) = given-numbered _

all_codes-numbered : (n at : ℕ) (cs : List ℕ) (fs : List Formula) → Numbered (all_codes n at cs fs)
unfolding all_codes
all_codes-numbered n at [] fs = given-numbered _
all_codes-numbered n at (c ∷ cs) fs =
    bind_numbered (one_code n at c fs) (all_codes n (at + 2) cs)
    (cond-numbered (ltb c n) (given (leaf c ∷ fs)) (joined at (operation c) fs) (given-numbered _) (joined-numbered at (operation c) fs))
    (all_codes-numbered n (at + 2) cs)

only-numbered : (tag : ℕ) (fs : List Formula) → Numbered (only_one tag fs)
only-numbered tag [] = search (refused-numbered, lit<)
only-numbered tag (f ∷ []) = given-numbered _
only-numbered tag (f ∷ g ∷ fs) = search (refused-numbered, lit<)

formula-numbered : (n tag first : ℕ) (cs : List ℕ) → Numbered (formula_of n tag first cs)
unfolding formula_of
formula-numbered n tag first cs = bind_numbered (all_codes n first cs []) (only_one tag) (all_codes-numbered n first cs []) (only-numbered tag)

joined-first-numbered : (at : ℕ) (o : Op) (fs : List Formula) → Numbered (joined_first at o fs)
joined-first-numbered at o [] = search (refused-numbered, lit<)
joined-first-numbered at o (l ∷ []) = search (refused-numbered, lit<)
joined-first-numbered at o (l ∷ r ∷ fs) = given-numbered _

module _ (on : ℕ → Outcome (List Formula)) (h : (k : ℕ) → Numbered (on k)) (k : ℕ) where
  operated-numbered : (at : ℕ) (p : Option Op) → Numbered (operated at p on k)
  operated-numbered at none = search (refused-numbered, lit<)
  operated-numbered at (some o) = bind_numbered (on (suc (suc k))) (joined_first at o) (h (suc (suc k))) (joined-first-numbered at o)

  one-first_by : (at c : ℕ) (t : Bool) → Numbered {A = List Formula} (elim t [ true ↦ part (λ fs. leaf c ∷ fs) (on k) | false ↦ operated at (operation c) on k ])
  one-first_by at c true = part-numbered (λ fs. leaf c ∷ fs) (on k) (h k)
  one-first_by at c false = operated-numbered at (operation c)

all_first-numbered : (n tag at : ℕ) (cs : List ℕ) (k : ℕ) → Numbered (all_first n tag at cs k)
unfolding all_first
all_first-numbered n tag at [] zero = given-numbered _
all_first-numbered n tag at [] (suc k) = search (refused-numbered, lit<)
all_first-numbered n tag at (c ∷ cs) zero = search (refused-numbered, lit<)
all_first-numbered n tag at (c ∷ cs) (suc k) =
    one-first_by (all_first n tag (at + 2) cs) (all_first-numbered n tag (at + 2) cs) k at c (ltb c n)

formula-first-numbered : (n tag first : ℕ) (cs : List ℕ) → Numbered (formula_first n tag first cs)
unfolding formula_first
formula-first-numbered n tag first cs = bind_numbered (all_first n tag first cs 1) (only_one tag) (all_first-numbered n tag first cs 1) (only-numbered tag)

formula_in-numbered : (edition n tag first : ℕ) (cs : List ℕ) → Numbered (formula_in edition n tag first cs)
unfolding formula_in
formula_in-numbered edition n tag first cs =
    cond-numbered (eqb edition 1) (formula_of n tag first cs) (formula_first n tag first cs) (formula-numbered n tag first cs) (formula-first-numbered n tag first cs)

-- ---- fields

header-numbered : (last : ℕ) (s : List ℕ) → Numbered (header last s)
unfolding header
header-numbered last s = search (asks, given-numbered, lit<) depth 20

module _ (w : Setting) (s : List ℕ) (at : ℕ) (ns : List (List ℕ)) where
  name-numbered : Numbered (name_at w s at ns)
  unfolding name_at
  name-numbered = search (asks, given-numbered, lit<) depth 20

  formula-field-numbered : Numbered (formula_at w s at ns)
  unfolding formula_at
  formula-field-numbered = search (asks, bind_numbered, formula_in-numbered, given-numbered, lit<) depth 20

  field-numbered : (ended : Bool) → Numbered (field_at w s at ns ended)
  unfolding field_at
  field-numbered true = search (asks, given-numbered, lit<)
  field-numbered false = search (asks, cond-numbered, name-numbered, formula-field-numbered, refused-numbered, lit<) depth 20

onward-numbered : (w : Setting) (on : ℕ → List (List ℕ) → Outcome Sheet) → ((at : ℕ) (ns : List (List ℕ)) → Numbered (on at ns))
    → (s : List ℕ) (ns : List (List ℕ)) (f : Field) → Numbered (onward w on s ns f)
onward-numbered w on h s ns (name_field x past) = h past (ns ++ (x ∷ []))
onward-numbered w on h s ns (formula_field f first past) = then_numbered (field_at w s past ns true) _ (field-numbered w s past ns true) (given-numbered _)
onward-numbered w on h s ns end_field = search (refused-numbered, lit<)

fields-numbered : (w : Setting) (k : ℕ) (s : List ℕ) (at : ℕ) (ns : List (List ℕ)) → Numbered (fields w k s at ns)
unfolding fields
fields-numbered w zero s at ns = search (refused-numbered, lit<)
fields-numbered w (suc k) s at ns =
    bind_numbered (field_at w s at ns false) (onward w (fields w k s) s ns) (field-numbered w s at ns false) (onward-numbered w (fields w k s) (fields-numbered w k s) s ns)

own-numbered : (fittings : List (List ℕ)) (s : List ℕ) → Numbered (own fittings s)
unfolding own
own-numbered fittings s =
    bind_numbered (header 2 s) (λ said. fields (record { fittings = fittings; edition = said }) 257 s 5 []) (header-numbered 2 s)
    (λ said. fields-numbered (record { fittings = fittings; edition = said }) 257 s 5 [])

-- ---- the fittings sheet

fitting_numbered : (s : List ℕ) (at : ℕ) (ns : List (List ℕ)) → Numbered (fitting_at s at ns)
unfolding fitting_at
fitting_numbered s at ns = search (asks, cond-numbered, name-numbered, refused-numbered, given-numbered, lit<) depth 20

onward_fitting-numbered : (on : ℕ → List (List ℕ) → Outcome (List (List ℕ))) → ((at : ℕ) (ns : List (List ℕ)) → Numbered (on at ns))
    → (at : ℕ) (ns : List (List ℕ)) (f : Field) → Numbered (onward_fitting on at ns f)
onward_fitting-numbered on h at ns (name_field x past) = h past (ns ++ (x ∷ []))
onward_fitting-numbered on h at ns (formula_field f first past) = search (refused-numbered, lit<)
onward_fitting-numbered on h at ns end_field = given-numbered _

fittings-fields-numbered : (k : ℕ) (s : List ℕ) (at : ℕ) (ns : List (List ℕ)) → Numbered (fitting_fields k s at ns)
unfolding fitting_fields
fittings-fields-numbered zero s at ns = search (refused-numbered, lit<)
fittings-fields-numbered (suc k) s at ns =
    bind_numbered (fitting_at s at ns) (onward_fitting (fitting_fields k s) at ns) (fitting_numbered s at ns) (onward_fitting-numbered (fitting_fields k s) (fittings-fields-numbered k s) at ns)

fitting_names-numbered : (s : List ℕ) → Numbered (fitting_names s)
unfolding fitting_names
fitting_names-numbered s = then_numbered (header 1 s) _ (header-numbered 1 s) (fittings-fields-numbered 257 s 5 [])

-- ---- the sheets of a call

pub reading-numbered : (c : Sheets) → Numbered (reading c)
unfolding reading
reading-numbered (alone s) = own-numbered [] s
reading-numbered (beside f s) =
    bind_numbered (of_fittings (fitting_names f)) (λ names. own names s) (fittings-numbered (fitting_names f) (fitting_names-numbered f)) (λ names. own-numbered names s)
