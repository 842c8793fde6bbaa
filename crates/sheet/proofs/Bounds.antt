-- A bound that the code has tested serves where a weaker one is asked for: an exit that tests for more than it has to still holds.
-- `m - k ≡ 0` says m ≤ k, and computes where both are numerals.
use Prim.Native.Nat.{ℕ, suc, ◌-◌, ◌≤◌, ◌<◌}
use native.Mathlib.Omega.{arith}
use mathlib.Core.Path.{◌≡◌}

module _ (x m k : ℕ) where
  pub below : x < m → m - k ≡ 0 → x < k
  below h e = omega arith

  pub under : x ≤ m → suc m - k ≡ 0 → x < k
  under h e = omega arith

  pub at_most : x < m → m - suc k ≡ 0 → x ≤ k
  at_most h e = omega arith

  pub above : m < x → k - m ≡ 0 → k < x
  above h e = omega arith

  pub at_least : m ≤ x → k - m ≡ 0 → k ≤ x
  at_least h e = omega arith

pub ruleset bounds = (below, under, at_most, above, at_least)
