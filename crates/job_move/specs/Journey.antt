-- The words of the theorems on the move: the sheets of a call with the customer's moved, what is read of them, a list of bytes.
use Rattle.std.specs.Prelude.{ℕ, ◌<◌, List, get_or}
use Rattle.sheet.specs.Sheet.{Sheets, alone, beside, Sheet}
use Rattle.job_move.specs.Moving.{moved}

abbrev pub moved_in : Sheets → Sheet → Sheets
moved_in (alone s) r = alone (moved s r)
moved_in (beside f s) r = beside f (moved s r)

-- The same names, and the same formula at the same place, in another edition.
abbrev pub in_edition : ℕ → Sheet → Sheet
in_edition to r = record { edition = to; names = r.names; formula = r.formula; first = r.first; past = r.past }

pub record Bytes (s : List ℕ) : Type 0 where
  pub small : (i : ℕ) → get_or s i 0 < 256
