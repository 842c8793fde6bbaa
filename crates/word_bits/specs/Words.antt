-- A word as truth values, the lowest bit first.
use Rattle.std.specs.Prelude.{◌≡◌, ℕ, zero, suc, ◌/◌, ◌%◌, ◌<◌, ◌≤◌, Bool, false, ◌&&◌, ◌||◌, ◌==◌}

-- Digit b of w.
unfoldable pub digit : ℕ → ℕ → ℕ
digit w zero = w % 2
digit w (suc b) = digit (w / 2) b

abbrev pub bit : ℕ → ℕ → Bool
bit w b = digit w b == 1

-- Bit j of a word of 32 is put on, if it is to be.
pub record WithBit (w j : ℕ) (on : Bool) (r : ℕ) : Type 0 where
  pub is : (c : ℕ) → c < 32 → bit r c ≡ (bit w c || (on && c == j))

-- The first n bits of a word of 32 are these, and the others are off.
pub record Picked (these : ℕ → Bool) (n w : ℕ) : Type 0 where
  pub are : (c : ℕ) → c < n → bit w c ≡ these c
  pub none : (c : ℕ) → n ≤ c → c < 32 → bit w c ≡ false
