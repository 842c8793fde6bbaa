-- The promise of asking for a name: the paper's numbers and values for each case of the answer, and the bytes given back.
use Rattle.std.specs.Prelude.{Result, ℕ, ◌≡◌, List, []}
use Rattle.outcome.specs.Outcome.{Outcome, given, refused, unfit, part}
use Rattle.outcome.specs.Refusing.{answered}
use Rattle.outcome.specs.declared.Refusal.{Refusal}
use Rattle.sheet.specs.Sheet.{Sheets}
use Rattle.job_name.specs.Naming.{naming, Stand, stand, placing}
use Rattle.job_name.specs.declared.Place.{Place}
use Rattle.job_name.specs.declared.Place.TheVariants as place

abbrev pub stood : Place → Stand
stood (place.Fitting first past) = stand 1 first past
stood (place.Own first past) = stand 2 first past

abbrev pub placed_of : Result Place Refusal → Outcome Stand
placed_of r = part stood (answered r)

-- The name's bytes, or none where there is no name.
abbrev pub bytes_given : Outcome (List ℕ) → List ℕ
bytes_given (given x) = x
bytes_given (refused number place) = []
bytes_given (unfit number place) = []

-- Both answers on shape k: where its name stands, and its bytes.
pub record Named (c : Sheets) (k : ℕ) (r : Result Place Refusal) (bytes : List ℕ) : Type 0 where
  pub place : placed_of r ≡ placing c k
  pub name : bytes ≡ bytes_given (naming c k)
