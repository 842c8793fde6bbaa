-- What lists of edits are to be: each edit of an operation and to one, moments that do not fall, three lists equally long.
use Rattle.std.specs.Prelude.{ℕ, ◌+◌, ◌<◌, ◌≤◌, ◌≡◌, List, [], ◌∷◌, length, get_or}
use Rattle.formula.specs.Formula.{first_operation, Formula}
use Rattle.edits.specs.Changes.{operations}
use Rattle.edit_moments.specs.Edits.{Edit}

-- Every edit is of an operation.
abbrev pub Operations : Formula → List Edit → Type 0
Operations f [] = Unit {0}
Operations f (e ∷ es) = (operations e.position 0 f ≡ 1) × Operations f es

-- Moments do not fall below m, nor below the one before.
abbrev pub Rises : ℕ → List Edit → Type 0
Rises m [] = Unit {0}
Rises m (e ∷ es) = (m ≤ e.moment) × Rises e.moment es

-- Three lists of edits: equally long, each to an operation, none after more than `most` toggles.
pub record Listed (ms ps cs : List ℕ) (most : ℕ) : Type 0 where
  pub positions_long : length ps ≡ length ms
  pub codes_long : length cs ≡ length ms
  pub low : (k : ℕ) → k < length ms → first_operation ≤ get_or cs k 0
  pub high : (k : ℕ) → k < length ms → get_or cs k 0 < first_operation + 4
  pub in_time : (k : ℕ) → k < length ms → get_or ms k 0 ≤ most
