-- The greatest of a list.
use Rattle.std.specs.Prelude.{ℕ, ◌<◌, ◌≤◌, ◌≡◌, List, get_or}

-- of the first n entries m is the greatest, or 0
pub record Greatest (xs : List ℕ) (n m : ℕ) : Type 0 where
  pub above : (j : ℕ) → j < n → get_or xs j 0 ≤ m
  pub among : 0 < m → (j : ℕ) × (j < n) × (get_or xs j 0 ≡ m)
