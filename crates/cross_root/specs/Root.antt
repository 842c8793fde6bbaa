-- "The greatest whole number whose square is not above" another: document 02, 'Balls'.
use Rattle.std.specs.Prelude.{ℕ, zero, suc, ◌+◌, ◌*◌, ◌<◌, ◌≤◌, true, false, leb}

-- The greatest number up to k whose square is not above n.
unfoldable pub greatest : ℕ → ℕ → ℕ
greatest zero n = zero
greatest (suc k) n = elim (leb (suc k * suc k) n) [ true ↦ suc k | false ↦ greatest k n ]

-- The square of r is not above n, and that of the next number is.
pub record Root (n r : ℕ) : Type 0 where
  pub below : r * r ≤ n
  pub above : n < (r + 1) * (r + 1)
