-- The lowest bit of a word that is on, and the others.
use Rattle.std.specs.Prelude.{◌≡◌, ℕ, ◌<◌, ◌≤◌, true, false}
use Rattle.word_bits.specs.Words.{bit}

-- Bit z is the lowest of d that is on.
pub record Lowest (d z : ℕ) : Type 0 where
  pub low : z < 64
  pub on : bit d z ≡ true
  pub off : (b : ℕ) → b < z → bit d b ≡ false

-- r is d without the lowest bit that is on.
pub record Others (d r : ℕ) : Type 0 where
  pub less : 0 < d → r < d
  pub kept : (z b : ℕ) → Lowest d z → z < b → bit r b ≡ bit d b
  pub gone : (z b : ℕ) → Lowest d z → b ≤ z → bit r b ≡ false
