-- What is said of the bits of a word: none of some, one alone, from one to the next, the last that is on, and bytes woven into them.
use Rattle.std.specs.Prelude.{ℕ, zero, suc, ◌+◌, ◌-◌, ◌*◌, ◌^◌, ◌≤◌, ◌<◌, ◌≡◌, Bool, true, false, not, ◌&&◌, List, eqb, leb, length, get_or}
use Rattle.word_bits.specs.Words.{bit}

-- From i on, d of them: none.
unfoldable pub none : (ℕ → Bool) → ℕ → ℕ → Bool
none f i zero = true
none f i (suc d) = not (f i) && none f (suc i) d

-- A word with bit j alone, if it has one.
pub record One (one j : ℕ) : Type 0 where
  pub is : j < 64 → one ≡ 2 ^ j

pub record Moved (one r : ℕ) : Type 0 where
  pub is : (j : ℕ) → One one j → One r (j + 1)

-- The bits of w that are off, but for the last.
pub record Inner (w rest : ℕ) : Type 0 where
  pub small : rest < 2 ^ 63
  pub is : (b : ℕ) → b < 63 → bit rest b ≡ not (bit w b)

-- A word whose bits are on from j to the first one that is on in w, or to the last.
pub record Span (w j m : ℕ) : Type 0 where
  pub is : (b : ℕ) → b < 64 → bit m b ≡ (leb j b && none (bit w) j (b - j))

-- Whatever word w has the bits of `rest` off, and whatever bit j is that of `one`.
pub record Spans (rest one m : ℕ) : Type 0 where
  pub is : (w j : ℕ) → Inner w rest → One one j → j < 64 → Span w j m

-- The last bit that is on is the one before r; with r 0 nothing is said.
pub record Since (w r : ℕ) : Type 0 where
  pub most : r ≤ 64
  pub last : 0 < r → bit w (r - 1) ≡ true
  pub none : 0 < r → (b : ℕ) → r ≤ b → b < 64 → bit w b ≡ false

-- By the last bit of w, the bits of m or none.
pub record Masked (w m r : ℕ) : Type 0 where
  pub is : (b : ℕ) → b < 64 → bit r b ≡ (bit w 63 && bit m b)

-- Bytes that are 0 or 1.
pub record Binary (bytes : List ℕ) : Type 0 where
  pub bits : (i : ℕ) → i < length bytes → get_or bytes i 0 ≤ 1

-- Bytes from s on in the bits of w, n of them 8 bits apart, m times over.
pub record Woven (bytes : List ℕ) (s n m w : ℕ) : Type 0 where
  pub are : (j i : ℕ) → j < n → i < m → bit w (8 * j + i) ≡ eqb (get_or bytes (s + j + 8 * i) 0) 1
  pub beside : (j i : ℕ) → n ≤ j → j < 8 → i < 8 → bit w (8 * j + i) ≡ false
  pub beyond : (j i : ℕ) → j < 8 → m ≤ i → i < 8 → bit w (8 * j + i) ≡ false
