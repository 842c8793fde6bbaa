-- What the pass over the records keeps of the paths.
use Rattle.std.specs.Prelude.{ℕ, ◌+◌, ◌≤◌, ◌<◌, List, length, get_or}

-- The paths of the first nodes are short enough to take one step more.
pub record Low (paths : List ℕ) : Type 0 where
  pub short : (j : ℕ) → j < length paths → get_or paths j 0 ≤ j + 1
