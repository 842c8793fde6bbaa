-- What a fill needs and gives, and what its steps keep: the shapes' rows word by word.
use Rattle.std.specs.Prelude.{ℕ, ◌+◌, ◌-◌, ◌*◌, ◌/◌, ◌≤◌, ◌<◌, ◌≡◌, Bool, true, false, not, ◌&&◌, cond, List, [], eqb, ltb, leb, length, get_or}
use Rattle.formula.specs.States.{State}
use Rattle.lines.specs.Lines.{LineLists, line_lists}
use Rattle.lines.specs.Columns.{only}
use Rattle.word_bits.specs.Words.{bit}
use Rattle.line_bits.specs.Bits.{none, One, Inner}
use Rattle.line_lists.specs.Block.{wide, columns, cell, planned, start_line, Alone}
use Rattle.line_strips.specs.Strips.{on, flips_at, last_at, entering, leaving, Filled}

-- ---- a fill

-- Column j can flip its shapes: a start has a whole row of zeros and ones, a crossing has one of the names.
pub record Flippable (names : ℕ) (rows shapes cols : List ℕ) (a j : ℕ) : Type 0 where
  pub row : columns ≤ get_or cols j 0 → start_line cols j * names + names ≤ length rows
  pub bytes : columns ≤ get_or cols j 0 → (s : ℕ) → s < names → get_or rows (start_line cols j * names + s) 0 ≤ 1
  pub there : get_or cols j 0 < columns → a + get_or cols j 0 < length shapes
  pub named : get_or cols j 0 < columns → get_or shapes (a + get_or cols j 0) 0 < names

-- So can the first n columns of the block.
pub record Legible (names : ℕ) (rows shapes cols : List ℕ) (a n : ℕ) : Type 0 where
  pub few : names ≤ 256
  pub cols_long : length cols ≡ columns
  pub most : n ≤ columns
  pub column : (j : ℕ) → j < n → Flippable names rows shapes cols a j

-- What a fill needs.
pub record Fillable (names : ℕ) (rows shapes cols lasts : List ℕ) (a n : ℕ) (told : Bool) (words : List ℕ) : Type 0 where
  pub legible : Legible names rows shapes cols a n
  pub alone : told ≡ true → Alone cols n
  pub lasts_long : length lasts ≡ wide
  pub some : 1 ≤ n
  pub room : 256 * wide ≤ length words

-- The states before the block's first column: where its line goes on, those after the last column of the block before, else all outside.
pub record Entered (names : ℕ) (going_on : Bool) (words : List ℕ) (first : State) : Type 0 where
  pub kept : going_on ≡ true → (s : ℕ) → s < names → on words s (columns - 1) ≡ first s
  pub none : going_on ≡ false → (s : ℕ) → s < names → first s ≡ false

-- What a fill gives.
pub record Fills (names : ℕ) (rows shapes cols lasts : List ℕ) (a n : ℕ) (going_on : Bool) (words words' : List ℕ) : Type 0 where
  pub long : length words' ≡ length words
  pub filled : (c : LineLists) (first : State) → c.rows ≡ rows → c.shapes ≡ shapes → Entered names going_on words first → Filled names (flips_at names c a (planned cols lasts)) (last_at (planned cols lasts)) first words' n

-- ---- its steps

-- The shapes that flip at a column, by the lists that say so.
unfoldable pub flips_of : ℕ → List ℕ → List ℕ → List ℕ → ℕ → ℕ → State
flips_of names rows shapes cols a c = flips_at names (line_lists rows [] [] shapes) a (planned cols []) c

-- Of a row of bytes, the first e: those that are 1.
unfoldable pub inside_to : List ℕ → ℕ → State
inside_to row e s = ltb s e && eqb (get_or row s 0) 1

-- A start row can flip its shapes.
pub record Bytes (row : List ℕ) : Type 0 where
  pub few : length row ≤ 256
  pub bits : (s : ℕ) → s < length row → get_or row s 0 ≤ 1

-- No word but k changes, of the names' rows.
pub record Apart (names k : ℕ) (words words' : List ℕ) : Type 0 where
  pub long : length words' ≡ length words
  pub other : (s j : ℕ) → s < names → j < columns → (j / 64 ≡ k → ⊥) → on words' s j ≡ on words s j

-- Word k of the rows of some shapes is flipped at the bits of m.
pub record WordFlips (names : ℕ) (flips : State) (k m : ℕ) (words words' : List ℕ) : Type 0 where
  pub apart : Apart names k words words'
  pub here : (s b : ℕ) → s < names → b < 64 → on words' s (64 * k + b) ≡ cond (flips s && bit m b) (not (on words s (64 * k + b))) (on words s (64 * k + b))

-- The same from bit j to the first one that is on in w, or to the last.
pub record SpanFlipped (names : ℕ) (flips : State) (k j w : ℕ) (words words' : List ℕ) : Type 0 where
  pub apart : Apart names k words words'
  pub here : (s b : ℕ) → s < names → b < 64 → on words' s (64 * k + b) ≡ cond (flips s && (leb j b && none (bit w) j (b - j))) (not (on words s (64 * k + b))) (on words s (64 * k + b))

-- Whatever word w has the bits of `rest` off, and whatever bit j is that of `one`.
pub record SpanFlips (names : ℕ) (flips : State) (k rest one : ℕ) (words words' : List ℕ) : Type 0 where
  pub is : (w j : ℕ) → Inner w rest → One one j → j < 64 → SpanFlipped names flips k j w words words'

-- A start row that was flipped up to byte a is now flipped up to byte e.
pub record GoesOn (row : List ℕ) (k m a e : ℕ) (words words' : List ℕ) : Type 0 where
  pub is : (before : List ℕ) → WordFlips (length row) (inside_to row a) k m before words → WordFlips (length row) (inside_to row e) k m before words'

-- The columns from m on are off.
pub record Blank (names m : ℕ) (words : List ℕ) : Type 0 where
  pub off : (s j : ℕ) → s < names → m ≤ j → j < columns → on words s j ≡ false

-- The columns before m are right, of a block of n.
pub record Right (names : ℕ) (flips : ℕ → State) (last : ℕ → Bool) (first : State) (n m : ℕ) (words : List ℕ) : Type 0 where
  pub is : (s j : ℕ) → s < names → j < n → j < m → on words s j ≡ leaving flips last first j s

-- Word k when its first j columns have flipped their shapes, each up to its line's last column.
pub record Laid (names : ℕ) (flips : ℕ → State) (last : ℕ → Bool) (first : State) (k j : ℕ) (words : List ℕ) : Type 0 where
  pub done : (s b : ℕ) → s < names → b < j → on words s (64 * k + b) ≡ leaving flips last first (64 * k + b) s
  pub ahead : (s b : ℕ) → s < names → j ≤ b → b < 64 → on words s (64 * k + b) ≡ (none last (64 * k + j) (b - j) && entering flips last first (64 * k + j) s)

-- From j of its columns to e of them.
pub record Lays (names : ℕ) (flips : ℕ → State) (last : ℕ → Bool) (k j e : ℕ) (words words' : List ℕ) : Type 0 where
  pub apart : Apart names k words words'
  pub laid : (first : State) → Laid names flips last first k j words → Laid names flips last first k e words'

-- To more of them, m at most.
pub record LaysSome (names : ℕ) (flips : ℕ → State) (last : ℕ → Bool) (k j m e : ℕ) (words words' : List ℕ) : Type 0 where
  pub more : j < e
  pub most : e ≤ m
  pub lays : Lays names flips last k j e words words'

-- The first m columns of word k can flip their shapes; where they are said to be crossings alone, so are all columns as far as that.
pub record Layable (names : ℕ) (rows shapes cols : List ℕ) (a k m : ℕ) (told : Bool) : Type 0 where
  pub short : m ≤ 64
  pub legible : Legible names rows shapes cols a (64 * k + m)
  pub alone : told ≡ true → Alone cols (64 * k + m)

-- The n crossings from a on are there, and have names.
pub record Named (shapes : List ℕ) (a n : ℕ) : Type 0 where
  pub there : (c : ℕ) → c < n → a + c < length shapes
  pub named : (c : ℕ) → c < n → get_or shapes (a + c) 0 < 256

-- The first m columns of word k laid as the crossings from a on: right wherever all columns as far as that flip as those crossings do.
pub record LaysRun (shapes lasts : List ℕ) (a k m : ℕ) (words words' : List ℕ) : Type 0 where
  pub long : length words' ≡ length words
  pub lays : (names : ℕ) (flips : ℕ → State) → names ≤ 256 → ((c s : ℕ) → c < 64 * k + m → flips c s ≡ only (get_or shapes (a + c) 0) s) → Lays names flips (cell lasts) k 0 m words words'

-- All are outside before column c, and no column from there to e is its line's last.
pub record Within (names : ℕ) (flips : ℕ → State) (last : ℕ → Bool) (first : State) (c e : ℕ) : Type 0 where
  pub begins : (s : ℕ) → s < names → entering flips last first c s ≡ false
  pub goes : (i : ℕ) → c ≤ i → i < e → last i ≡ false

-- Such columns flipped at the bits of m of word k, where it was off: there it has the states before column e.
pub record Replayed (names : ℕ) (flips : ℕ → State) (k m c e : ℕ) (words words' : List ℕ) : Type 0 where
  pub apart : Apart names k words words'
  pub here : (last : ℕ → Bool) (first : State) → Within names flips last first c e → (s b : ℕ) → s < names → b < 64 → on words' s (64 * k + b) ≡ (entering flips last first e s && bit m b)

-- Word `to` of the first n rows is the last column of word k at the bits of m; the rows from n on are as they were.
pub record Carried (n k to m : ℕ) (words words' : List ℕ) : Type 0 where
  pub long : length words' ≡ length words
  pub other : (s j : ℕ) → j < columns → (j / 64 ≡ to → ⊥) → on words' s j ≡ on words s j
  pub here : (s b : ℕ) → s < n → b < 64 → on words' s (64 * to + b) ≡ (on words s (64 * k + 63) && bit m b)
  pub left : (s j : ℕ) → n ≤ s → j < columns → on words' s j ≡ on words s j

-- One row of a block whose first line goes on: its first word, the others off.
pub record Row (s v : ℕ) (words words' : List ℕ) : Type 0 where
  pub long : length words' ≡ length words
  pub first : (b : ℕ) → b < 64 → on words' s b ≡ bit v b
  pub rest : (j : ℕ) → 64 ≤ j → j < columns → on words' s j ≡ false
  pub other : (u j : ℕ) → j < columns → (u ≡ s → ⊥) → on words' u j ≡ on words u j

-- The first n rows of such a block; the rows from n on are as they were.
pub record Opened (n m : ℕ) (words words' : List ℕ) : Type 0 where
  pub long : length words' ≡ length words
  pub first : (s b : ℕ) → s < n → b < 64 → on words' s b ≡ (on words s (columns - 1) && bit m b)
  pub rest : (s j : ℕ) → s < n → 64 ≤ j → j < columns → on words' s j ≡ false
  pub left : (s j : ℕ) → n ≤ s → j < columns → on words' s j ≡ on words s j

-- Word k begins where the word before it ends.
pub record Opens (names : ℕ) (flips : ℕ → State) (last : ℕ → Bool) (k : ℕ) (words words' : List ℕ) : Type 0 where
  pub apart : Apart names k words words'
  pub opened : (first : State) (n : ℕ) → 64 * k ≤ n → Right names flips last first n (64 * k) words → Laid names flips last first k 0 words'

-- The block's first word begins, and the others are off.
pub record Begins (names : ℕ) (last : ℕ → Bool) (going_on : Bool) (words words' : List ℕ) : Type 0 where
  pub long : length words' ≡ length words
  pub blank : Blank names 64 words'
  pub opened : (flips : ℕ → State) (first : State) → Entered names going_on words first → Laid names flips last first 0 0 words'

-- The block's first word is done, and the others are off.
pub record Starts (names : ℕ) (flips : ℕ → State) (last : ℕ → Bool) (going_on : Bool) (n : ℕ) (words words' : List ℕ) : Type 0 where
  pub long : length words' ≡ length words
  pub blank : Blank names (64 * 1) words'
  pub right : (first : State) → Entered names going_on words first → Right names flips last first n (64 * 1) words'

-- Of n columns word k has m: all 64, or those that are left.
pub record InWord (n k m : ℕ) : Type 0 where
  pub most : m ≤ 64
  pub within : 64 * k + m ≤ n
  pub all : (j : ℕ) → j < n → j < 64 * k + 64 → j < 64 * k + m

-- The columns of words before word e are right, if those of words before word k were.
pub record Advances (names : ℕ) (flips : ℕ → State) (last : ℕ → Bool) (n k e : ℕ) (words words' : List ℕ) : Type 0 where
  pub long : length words' ≡ length words
  pub blank : Blank names (64 * e) words'
  pub right : (first : State) → Right names flips last first n (64 * k) words → Right names flips last first n (64 * e) words'
