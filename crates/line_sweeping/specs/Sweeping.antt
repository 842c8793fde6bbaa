-- What the sweep keeps, from one column to the next.
use Rattle.std.specs.Prelude.{ℕ, ◌+◌, ◌*◌, ◌≤◌, ◌<◌, ◌≡◌, Bool, false, not, ◌&&◌, List, [], ◌∷◌, ℤ, length, get_or}
use Rattle.word_bits.specs.Words.{bit}
use Rattle.line_lists.specs.Block.{wide, columns, cell}
use Rattle.line_events.specs.Events.{ends_in, settled, changes_at, opens_at, events_at, metal_next}
use Rattle.line_events.specs.Noted.{Noted, Events}
use Rattle.line_events.specs.declared.Found.{Found}

-- a column that says what was there before it, and past which no metal goes on if it is the last of its line
pub record Quiet (metal bit last : Bool) : Type 0 where
  pub alike : bit ≡ metal
  pub inner : (metal && last) ≡ false

-- from bit j on, the bits before r of a word and its line ends are quiet
pub record NextNoisy (w y j : ℕ) (metal : Bool) (r : ℕ) : Type 0 where
  pub rises : j ≤ r
  pub near : r ≤ 128
  pub quiet : (b : ℕ) → j ≤ b → b < r → b < 64 → Quiet metal (bit w b) (bit y b)

-- column c of the block is there, or a line's start
pub record ColumnThere (ls : List ℕ) (ps : List ℤ) (a : ℕ) (cols : List ℕ) (c : ℕ) : Type 0 where
  pub narrow : c < columns
  pub long : length ps ≡ length ls
  pub crossing : get_or cols c 0 < columns → a + get_or cols c 0 < length ls
  pub sized : length cols ≡ columns

-- a list of events has room for the next, of column c
pub record EventRoom (c : ℕ) (events : List ℕ) (f : Found) : Type 0 where
  pub narrow : c < columns
  pub few : f.count ≤ 2 * c + 1
  pub sized : length events ≡ 2 * columns

-- the sweep has come to column c
pub record Reached (ls : List ℕ) (ps : List ℤ) (a : ℕ) (cols : List ℕ) (c : ℕ) (events : List ℕ) (f : Found) : Type 0 where
  pub there : ColumnThere ls ps a cols c
  pub few : f.count ≤ 2 * c
  pub sized : length events ≡ 2 * columns

-- v is one event more, after which there is metal or not
pub record EventNoted (v : ℕ) (metal : Bool) (count : ℕ) (events events' : List ℕ) (f : Found) : Type 0 where
  pub noted : Noted (v ∷ []) count events f.count events'
  pub metal_after : f.metal ≡ metal

pub record Changed (ends bit : Bool) (c : ℕ) (events : List ℕ) (f : Found) (events' : List ℕ) (f' : Found) : Type 0 where
  pub noted : Noted (changes_at ends bit f.metal c) f.count events f'.count events'
  pub metal : f'.metal ≡ settled ends bit f.metal

pub record Left (last : Bool) (c : ℕ) (events : List ℕ) (f : Found) (events' : List ℕ) (f' : Found) : Type 0 where
  pub noted : Noted (opens_at last f.metal c) f.count events f'.count events'
  pub metal : f'.metal ≡ (not last && f.metal)

pub record Stepped (ends bit last : Bool) (c : ℕ) (events : List ℕ) (f : Found) (events' : List ℕ) (f' : Found) : Type 0 where
  pub noted : Noted (events_at ends bit last f.metal c) f.count events f'.count events'
  pub metal : f'.metal ≡ metal_next ends bit last f.metal

-- the n columns of a block are there, and the arrays have their size
pub record Sweepable (ls : List ℕ) (ps : List ℤ) (a n : ℕ) (cols row lasts : List ℕ) : Type 0 where
  pub narrow : n ≤ columns
  pub there : (c : ℕ) → c < n → ColumnThere ls ps a cols c
  pub row_sized : length row ≡ wide
  pub lasts_sized : length lasts ≡ wide

-- the same by the block's lists
abbrev pub Swept : List ℕ → List ℤ → ℕ → List ℕ → List ℕ → List ℕ → Bool → ℕ → List ℕ → Found → Type 0
Swept ls ps a cols row lasts metal j events f = Events (ends_in ls ps a cols) (cell row) (cell lasts) metal j events f
