-- Asking for all names at once: where the name of each shape stands, in the order of their numbers. Document 02, K7.
use Rattle.std.specs.Prelude.{ℕ, zero, suc, List, [], ◌∷◌, ◌++◌, map, length}
use Rattle.outcome.specs.Outcome.{Outcome, given, room, ◌>>=◌, ◌>>◌}
use Rattle.sheet.specs.Sheet.{Sheets, reading}
use Rattle.job_name.specs.Naming.{Stand, fitted_in, stand_of}

-- The numbers below n, rising.
unfoldable pub numbers_below : ℕ → List ℕ
numbers_below zero = []
numbers_below (suc n) = numbers_below n ++ (n ∷ [])

-- The sheets first, 1 to 7 and 17; then each name where asking for it alone finds it.
unfoldable pub placing_all : Sheets → Outcome (List Stand)
placing_all c = do
  m ← fitted_in c
  sheet ← reading c
  given (map (stand_of c m) (numbers_below (length sheet.names)))

-- Then 9 for sheets, firsts, pasts, one entry a name each.
unfoldable pub giving_all : List Stand → ℕ → ℕ → ℕ → Outcome (List Stand)
giving_all stands sheets firsts pasts = do
  room (length stands) sheets
  room (length stands) firsts
  room (length stands) pasts
  given stands

unfoldable pub naming_all : Sheets → ℕ → ℕ → ℕ → Outcome (List Stand)
naming_all c sheets firsts pasts = do
  stands ← placing_all c
  giving_all stands sheets firsts pasts
