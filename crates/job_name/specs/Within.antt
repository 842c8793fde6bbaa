-- What the functions promise each other: names that are all there, and where one of them stands.
use Rattle.std.specs.Prelude.{Result, Ok, Err, ℕ, ◌+◌, ◌-◌, ◌≤◌, ◌≡◌, cond, List, [], ltb, length}
use Rattle.outcome.specs.Outcome.{Outcome, given, refused, unfit, need, ◌>>◌}
use Rattle.sheet.specs.Sheet.{Sheets, alone, beside, Sheet, between, fitting_names, reading}
use Rattle.sheet.specs.Walk.{walk_end}
use Rattle.job_name.specs.Naming.{Stand, field_in}
use Rattle.outcome.specs.declared.Refusal.{Refusal}
use Rattle.job_name.specs.declared.Place.{Place}
use Rattle.job_name.specs.declared.Place.TheVariants as place

-- The first m names of the fittings sheet f and the first n of s are all there.
pub record Held (f : List ℕ) (m : ℕ) (s : List ℕ) (n : ℕ) : Type 0 where
  pub fittings_inside : walk_end f 5 m ≤ length f
  pub inside : walk_end s 5 n ≤ length s

-- Where shape k's name stands, of m names of f and then n of s.
abbrev pub placed_in : List ℕ → ℕ → List ℕ → ℕ → ℕ → Outcome Stand
placed_in f m s n k = need (ltb k (m + n)) 10 0 >> given (cond (ltb k m) (field_in 1 f k) (field_in 2 s (k - m)))

-- How many names a fittings sheet has; 0 where it is refused.
abbrev pub length_given : Outcome (List (List ℕ)) → ℕ
length_given (given names) = length names
length_given (refused number place) = 0
length_given (unfit number place) = 0

abbrev pub fitted_number : List ℕ → ℕ
fitted_number f = length_given (fitting_names f)

abbrev pub fitted_among : Sheets → ℕ
fitted_among (alone s) = 0
fitted_among (beside f s) = fitted_number f

-- A fittings sheet that is read: it ends after its names, 256 at most.
pub record Whole (f : List ℕ) (m : ℕ) : Type 0 where
  pub ends : walk_end f 5 m ≡ length f
  pub few : m ≤ 256

-- Sheets that are read, with so many names.
pub record ReadAs (c : Sheets) (names : ℕ) : Type 0 where
  pub held : Sheet
  pub read : reading c ≡ given held
  pub names_are : names ≡ length held.names

-- The bytes from an offset up to another are there.
pub record Within (s : List ℕ) (first past : ℕ) : Type 0 where
  pub ordered : first ≤ past
  pub inside : past ≤ length s

-- Those that an answer stands for, in the fittings sheet f or in s; and what they are.
abbrev pub StandsIn : List ℕ → List ℕ → Result Place Refusal → Type 0
StandsIn f s (Ok (place.Fitting first past)) = Within f first past
StandsIn f s (Ok (place.Own first past)) = Within s first past
StandsIn f s (Err e) = Unit {0}

abbrev pub part_of : List ℕ → List ℕ → Result Place Refusal → List ℕ
part_of f s (Ok (place.Fitting first past)) = between f first past
part_of f s (Ok (place.Own first past)) = between s first past
part_of f s (Err e) = []
