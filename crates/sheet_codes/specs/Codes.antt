-- A formula's codes put into an array.
use Rattle.std.specs.Prelude.{ℕ, ◌%◌, ◌≤◌, ◌≡◌, List, length, take}
use Rattle.sheet.specs.Sheet.{longest_formula}

-- A formula's bytes as an accepted sheet has them, and an array of 2048 entries.
pub record CodesFit (bytes array : List ℕ) : Type 0 where
  pub few : length bytes ≤ longest_formula
  pub even : length bytes % 2 ≡ 0
  pub sized : length array ≡ 2048

-- The array begins with the codes, and their number is answered.
pub record CodesStand (codes array : List ℕ) (count : ℕ) : Type 0 where
  pub all : count ≡ length codes
  pub are : take count array ≡ codes
  pub sized : length array ≡ 2048
