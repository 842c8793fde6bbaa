-- What is told from a field on, and what is read of a fittings sheet: what the reader's functions promise each other.
use Rattle.std.specs.Prelude.{Result, Ok, Err, ℕ, ◌≤◌, ◌≡◌, Bool, true, false, List, []}
use Rattle.outcome.specs.Outcome.{Outcome, given, refused, part}
use Rattle.sheet.specs.Sheet.{Setting, most_names, fields, own, fitting_names}
use Rattle.sheet.specs.Walk.{walk_names}
use Rattle.sheet_names.specs.Keys.{Keyed, Walkable}
use Rattle.sheet_reading.specs.Reading.{numbers_of}
use Rattle.sheet_reading.specs.declared.Read.{Read}
use Rattle.outcome.specs.Refusing.{number_of}
use Rattle.outcome.specs.declared.Fault.{Fault}

-- ---- The customer's sheet: as a whole, and from an offset on after the names ns

unfoldable pub told_own : List (List ℕ) → List ℕ → Outcome Read
told_own fittings s = part numbers_of (own fittings s)

unfoldable pub told_from : Setting → ℕ → List ℕ → ℕ → List (List ℕ) → Outcome Read
told_from w k s at ns = part numbers_of (fields w k s at ns)

-- ---- The fittings sheet

-- Its names; none where there is no fittings sheet.
abbrev pub fittings_of : Bool → List ℕ → Outcome (List (List ℕ))
fittings_of true f = fitting_names f
fittings_of false f = given []

-- So many names of the fittings sheet f were read, from offset 5 on, and the array has their keys.
pub record FittingsRead (f : List ℕ) (m : ℕ) (array : List ℕ) : Type 0 where
  pub there : Walkable f 5 m
  pub few : m ≤ most_names
  pub keyed : Keyed array (walk_names f 5 m)

-- The names that are given are these, and their keys are in the array.
pub record FittingsGiven (f : List ℕ) (o : Outcome (List (List ℕ))) (array : List ℕ) (m : ℕ) : Type 0 where
  pub are : o ≡ given (walk_names f 5 m)
  pub known : FittingsRead f m array

-- By cases of the answer on the fittings sheet f, whose outcome is o.
abbrev pub FittingsAre : List ℕ → Outcome (List (List ℕ)) → List ℕ → Result ℕ Fault → Type 0
FittingsAre f o array (Ok m) = FittingsGiven f o array m
FittingsAre f o array (Err e) = o ≡ refused (number_of e.reason) e.place
