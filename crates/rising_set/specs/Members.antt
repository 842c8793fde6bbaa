-- A set of numbers below 3072, a bit each, in 48 words of 64. One word is in hand, and nothing is below it.
use Rattle.std.specs.Prelude.{ℕ, ◌/◌, ◌%◌, ◌≤◌, ◌<◌, ◌≡◌, Bool, false, not, ◌&&◌, ◌||◌, List, eqb, length, get_or, set}
use Rattle.word_bits.specs.Words.{digit, bit}
use Rattle.rising_set.specs.declared.RisingSet.{RisingSet}

-- k is in the set.
abbrev pub in_set : List ℕ → ℕ → Bool
in_set ws k = bit (get_or ws (k / 64) 0) (k % 64)

-- All words: the one in hand in its place.
abbrev pub all : List ℕ → RisingSet → List ℕ
all ws m = set ws m.at m.word

-- The list holds nothing up to the word in hand, and the words after it that have something in them are those held.
pub record Rising (ws : List ℕ) (m : RisingSet) : Type 0 where
  pub long : length ws ≡ 48
  pub here : m.at < 48
  pub low : (i : ℕ) → i / 64 ≤ m.at → in_set ws i ≡ false
  pub later : (w : ℕ) → digit m.held w ≡ 1 → (m.at < w) × (w < 48) × (get_or ws w 0 ≡ 0 → ⊥)
  pub rest : (w : ℕ) → m.at < w → digit m.held w ≡ 0 → get_or ws w 0 ≡ 0

-- k put into the set ms, or taken out of it; the same set; an empty one.
pub record Added (ms : List ℕ) (k : ℕ) (ms' : List ℕ) : Type 0 where
  pub so : (i : ℕ) → in_set ms' i ≡ (in_set ms i || eqb i k)

pub record Removed (ms : List ℕ) (k : ℕ) (ms' : List ℕ) : Type 0 where
  pub so : (i : ℕ) → in_set ms' i ≡ (in_set ms i && not (eqb i k))

pub record Same (ms ms' : List ℕ) : Type 0 where
  pub so : (i : ℕ) → in_set ms' i ≡ in_set ms i

pub record Empty (ms : List ℕ) : Type 0 where
  pub none : (i : ℕ) → in_set ms i ≡ false

pub record Put (ws : List ℕ) (m : RisingSet) (k : ℕ) (ws' : List ℕ) (m' : RisingSet) : Type 0 where
  pub rising : Rising ws' m'
  pub added : Added (all ws m) k (all ws' m')
  pub stays : m'.at ≡ m.at

pub record Taken (m : RisingSet) (k : ℕ) (m' : RisingSet) : Type 0 where
  pub stays : m'.at ≡ m.at
  pub removed : (ws : List ℕ) → Rising ws m → Removed (all ws m) k (all ws m')
  pub rising : (ws : List ℕ) → Rising ws m → Rising ws m'

pub record Opened (ws : List ℕ) (m : RisingSet) (ws' : List ℕ) (m' : RisingSet) : Type 0 where
  pub rising : Rising ws' m'
  pub same : Same (all ws m) (all ws' m')
  pub empty : m'.word ≡ 0 → Empty (all ws' m')

-- r is the lowest in the set: it is in the word in hand.
pub record Lowest (m : RisingSet) (r : ℕ) : Type 0 where
  pub place : r / 64 ≡ m.at
  pub here : digit m.word (r % 64) ≡ 1
  pub low : (c : ℕ) → c < r % 64 → digit m.word c ≡ 0
