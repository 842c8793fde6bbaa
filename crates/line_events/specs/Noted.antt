-- The events so far, which stand first in their list, and the bits of a word where each column stands alone.
use Rattle.std.specs.Prelude.{ℕ, zero, suc, ◌+◌, ◌*◌, ◌≤◌, ◌<◌, ◌≡◌, Bool, true, false, not, cond, ◌&&◌, List, [], ◌∷◌, ◌++◌, ℤ, pos, length, take, get_or}
use Rattle.std.specs.Int.Signed.{lt_z}
use Rattle.word_bits.specs.Words.{bit}
use Rattle.line_lists.specs.Block.{columns}
use Rattle.line_events.specs.Events.{metal_after, events_after}
use Rattle.line_events.specs.declared.Found.{Found}

-- some events more than the first k
pub record Noted (new : List ℕ) (k : ℕ) (events : List ℕ) (k' : ℕ) (events' : List ℕ) : Type 0 where
  pub sized : length events' ≡ length events
  pub count : k' ≡ k + length new
  pub are : take k' events' ≡ take k events ++ new

-- a list of events has room for v after the first count
pub record NoteRoom (v count : ℕ) (events : List ℕ) : Type 0 where
  pub narrow : v < 2 * columns
  pub few : count < 2 * columns
  pub sized : length events ≡ 2 * columns

-- the columns of word k before e
pub record WordPart (k e : ℕ) : Type 0 where
  pub some : 64 * k < e
  pub inside : e ≤ 64 * k + 64

-- the first j columns have been gone through
pub record Events (ends bits last : ℕ → Bool) (metal : Bool) (j : ℕ) (events : List ℕ) (f : Found) : Type 0 where
  pub few : f.count ≤ 2 * j
  pub sized : length events ≡ 2 * columns
  pub are : take f.count events ≡ events_after ends bits last metal j
  pub left : f.metal ≡ metal_after ends bits last metal j

-- the first r events listed are those of a block of n columns
pub record Listed (ends bits last : ℕ → Bool) (metal : Bool) (n : ℕ) (events : List ℕ) (r : ℕ) : Type 0 where
  pub few : r ≤ 2 * n
  pub sized : length events ≡ 2 * columns
  pub are : take r events ≡ events_after ends bits last metal n

-- 1 for what holds, else 0
abbrev pub one_if : Bool → ℕ
one_if holds = cond holds 1 0

-- the position at i is below the next
unfoldable pub rises_at : List ℤ → ℕ → Bool
rises_at ps i = lt_z (get_or ps i (pos 0)) (get_or ps (i + 1) (pos 0))

-- where it is told, something holds of each from i to e
pub record AllHold (holds : ℕ → Bool) (i e : ℕ) (told : Bool) : Type 0 where
  pub each : told ≡ true → (x : ℕ) → i ≤ x → x < e → holds x ≡ true

-- what goes on past each column of a word that stands alone
pub record GoesOn (w y r : ℕ) : Type 0 where
  pub says : (b : ℕ) → bit r b ≡ (not (bit y b) && bit w b)

-- the metal before each column of a word, with `metal` before the first, where each stands alone
pub record Before (w y : ℕ) (metal : Bool) (r : ℕ) : Type 0 where
  pub first : bit r 0 ≡ metal
  pub next : (b : ℕ) → b + 1 < 64 → bit r (b + 1) ≡ (not (bit y b) && bit w b)

-- the first m bits are on, and no others
pub record FirstOn (m r : ℕ) : Type 0 where
  pub on : (b : ℕ) → b < m → bit r b ≡ true
  pub off : (b : ℕ) → m ≤ b → bit r b ≡ false

abbrev pub some_if : Bool → ℕ → List ℕ
some_if holds v = cond holds (v ∷ []) []

-- the events of the first columns of word k that two words say: where metal changes, and where it goes on past a line's end
unfoldable pub said_events : ℕ → ℕ → ℕ → ℕ → List ℕ
said_events changes opens k zero = []
said_events changes opens k (suc b) = said_events changes opens k b ++ (some_if (bit changes b) (64 * k + b) ++ some_if (bit opens b) (columns + (64 * k + b)))

-- word k of a block, before e: w with line ends y, where each column stands alone
pub record WordAlone (ends bits last : ℕ → Bool) (w y k e : ℕ) : Type 0 where
  pub alone : (c : ℕ) → 64 * k ≤ c → c < e → ends c ≡ true
  pub word : (b : ℕ) → b < 64 → bits (64 * k + b) ≡ bit w b
  pub line_ends : (b : ℕ) → b < 64 → last (64 * k + b) ≡ bit y b

-- a list of events has room for those of columns from c on
pub record RoomFrom (c : ℕ) (events : List ℕ) (count : ℕ) : Type 0 where
  pub few : count ≤ 2 * c
  pub sized : length events ≡ 2 * columns

-- whatever the block, if its columns before word k have been gone through, so have those before e
pub record SweptAlone (w y k e : ℕ) (events : List ℕ) (f : Found) (events' : List ℕ) (f' : Found) : Type 0 where
  pub swept : (ends bits last : ℕ → Bool) (metal : Bool) → WordAlone ends bits last w y k e → Events ends bits last metal (64 * k) events f → Events ends bits last metal e events' f'
