-- Crossings alone: which of them are their lines' last, a bit each, and how many of them a block takes.
use Rattle.std.specs.Prelude.{ℕ, ◌+◌, ◌-◌, ◌<◌, ◌≤◌, ◌≡◌, Bool, true, false, not, cond, List, eqb, get_or, length}
use Rattle.word_bits.specs.Words.{bit}
use Rattle.line_lists.specs.Block.{cell, wide, columns, Alone}

-- line l is over before crossing i
unfoldable pub over_at : List ℕ → ℕ → ℕ → Bool
over_at ls l i = cond (eqb i (length ls)) true (not (eqb (get_or ls i 0) l))

-- crossing i, which is not the list's last, is its line's last
abbrev pub last_of_line : List ℕ → ℕ → Bool
last_of_line ls i = not (eqb (get_or ls (i + 1) 0) (get_or ls i 0))

-- crossing i is its line's last
abbrev pub ends_line : List ℕ → ℕ → Bool
ends_line ls i = over_at ls (get_or ls i 0) (i + 1)

-- of the k crossings from i on, a bit each
pub record Ends (ls : List ℕ) (i k w : ℕ) : Type 0 where
  pub on : (t : ℕ) → t < k → bit w t ≡ last_of_line ls (i + t)
  pub off : (t : ℕ) → k ≤ t → t < 64 → bit w t ≡ false

-- of the 64 crossings from i on that there are, a bit each
pub record LineEnds (ls : List ℕ) (i w : ℕ) : Type 0 where
  pub on : (t : ℕ) → t < 64 → i + t < length ls → bit w t ≡ ends_line ls (i + t)

-- the first m of n crossings alone
pub record EndsNoted (ls : List ℕ) (i n : ℕ) (lasts : List ℕ) (m : ℕ) : Type 0 where
  pub long : length lasts ≡ wide
  pub are : (j : ℕ) → j < m → j < n → cell lasts j ≡ ends_line ls (i + j)

-- the first n of a block's columns are numbered
pub record Numbered (cols : List ℕ) (n : ℕ) : Type 0 where
  pub long : length cols ≡ columns
  pub alone : Alone cols n

-- of n columns m are taken: all, or fewer up to a line's end
pub record CutTo (lasts : List ℕ) (n m : ℕ) : Type 0 where
  pub fewer : m ≤ n
  pub some : 0 < n → 0 < m
  pub ends : m < n → cell lasts (m - 1) ≡ true
