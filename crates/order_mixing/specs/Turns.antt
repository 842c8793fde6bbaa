-- What judging an order keeps: the turns gone through so far.
use Rattle.std.specs.Prelude.{ℕ, ◌+◌, ◌≤◌, ◌≡◌, true, List, length, take}
use Rattle.order_mixing.specs.Order.{named, turns}

-- Of the first i turns each names one of the two, and this many are the second's.
pub record Counting (order : List ℕ) (i seconds : ℕ) : Type 0 where
  pub within : i ≤ length order
  pub all_named : named (take i order) ≡ true
  pub second_is : turns 1 (take i order) ≡ seconds
  pub first_is : turns 0 (take i order) + seconds ≡ i
