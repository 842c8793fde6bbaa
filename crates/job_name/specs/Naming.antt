-- Asking for a shape's name: what it gives for the sheets of a call, and where the name's bytes stand. Document 02, K7.
use Rattle.std.specs.Prelude.{ℕ, suc, ◌+◌, ◌-◌, cond, List, [], ltb, eqb, length, get_or}
use Rattle.outcome.specs.Outcome.{Outcome, given, need, ◌>>=◌, ◌>>◌, part, of_fittings}
use Rattle.sheet.specs.Sheet.{Sheets, alone, beside, between, fitting_names, reading}
use Rattle.sheet.specs.Walk.{walk_end}

-- The sheets first, 1 to 7 and 17; then 10, place 0, for a number past the joined names.
unfoldable pub naming : Sheets → ℕ → Outcome (List ℕ)
naming c k = do
  sheet ← reading c
  need (ltb k (length sheet.names)) 10 0
  given (get_or sheet.names k [])

-- ---- Where the bytes stand

-- In which sheet, 1 the fittings sheet and 2 the customer's; their first offset and the one past their end.
pub data Stand : Type 0 where
  stand : ℕ → ℕ → ℕ → Stand

-- The n-th name of a sheet is its n-th field after the header.
abbrev pub field_in : ℕ → List ℕ → ℕ → Stand
field_in which s n = stand which (walk_end s 5 n + 3) (walk_end s 5 (suc n))

-- How many names are the fittings'.
abbrev pub fitted_in : Sheets → Outcome ℕ
fitted_in (alone s) = given 0
fitted_in (beside f s) = part length (of_fittings (fitting_names f))

-- Shape k, where m names are the fittings': they are numbered first, the customer's after them.
abbrev pub stand_of : Sheets → ℕ → ℕ → Stand
stand_of (alone s) m k = field_in 2 s k
stand_of (beside f s) m k = cond (ltb k m) (field_in 1 f k) (field_in 2 s (k - m))

unfoldable pub placing : Sheets → ℕ → Outcome Stand
placing c k = do
  m ← fitted_in c
  sheet ← reading c
  need (ltb k (length sheet.names)) 10 0
  given (stand_of c m k)

-- The bytes that stand there.
abbrev pub bytes_of : Sheets → Stand → List ℕ
bytes_of (alone s) (stand which first past) = between s first past
bytes_of (beside f s) (stand which first past) = between (cond (eqb which 1) f s) first past
