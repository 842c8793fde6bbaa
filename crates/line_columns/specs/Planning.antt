-- What the planning of a block keeps.
use Rattle.std.specs.Prelude.{ℕ, ◌+◌, ◌-◌, ◌*◌, ◌/◌, ◌%◌, ◌<◌, ◌≤◌, ◌≡◌, Bool, true, false, List, ℤ, get_or, length, drop, set}
use Rattle.lines.specs.Lines.{LineLists, line_lists, row_count, start_state}
use Rattle.lines.specs.Columns.{any_inside}
use Rattle.lines.specs.Views.{view_at}
use Rattle.lines.specs.AtIndex.{Accepted}
use Rattle.word_bits.specs.Words.{bit}
use Rattle.line_lists.specs.Block.{Plan, planned, columns}
use Rattle.line_runs.specs.Runs.{over_at}
use Rattle.line_columns.specs.declared.Cursor.{Cursor}
use Rattle.line_columns.specs.declared.Word.{Word}
use Rattle.line_columns.specs.Planned.{left_at, held_at, HeldWithin, PlanSized, BlockPlanned}

-- a cursor stands before crossing i, and before the start of line q, where a shape is inside, or after all starts
pub record AtCursor (names : ℕ) (c : LineLists) (i q : ℕ) : Type 0 where
  pub crossing : i ≤ length c.lines
  pub row : q ≤ row_count names c.rows
  pub inside : q < row_count names c.rows → any_inside names (start_state names c.rows q) ≡ true

-- of the rows from r on the first with a shape inside is q, or there is none
pub record NextInside (names : ℕ) (rows : List ℕ) (r q : ℕ) : Type 0 where
  pub from : r ≤ q
  pub row : q ≤ row_count names rows
  pub none : (l : ℕ) → r ≤ l → l < q → any_inside names (start_state names rows l) ≡ false
  pub inside : q < row_count names rows → any_inside names (start_state names rows q) ≡ true

-- whole rows, count of them, of bytes 0 and 1
pub record WholeRows (names : ℕ) (rows : List ℕ) (count : ℕ) : Type 0 where
  pub some : 0 < names
  pub are : count ≡ row_count names rows
  pub whole : length rows ≡ count * names
  pub bytes : (j : ℕ) → get_or rows j 0 ≤ 1

-- the row of line q is there
pub record RowThere (names : ℕ) (rows : List ℕ) (q : ℕ) : Type 0 where
  pub fits : q * names + names ≤ length rows
  pub bytes : (j : ℕ) → get_or rows j 0 ≤ 1

-- a byte of a row is not 0
pub record Occupied (row : List ℕ) (r : Bool) : Type 0 where
  pub yes : r ≡ true → (s : ℕ) × (s < length row) × (get_or row s 0 ≡ 0 → ⊥)
  pub no : r ≡ false → (s : ℕ) → s < length row → get_or row s 0 ≡ 0

-- column c in its word of lasts: the other columns stay
pub record LastPut (w w' c : ℕ) (last : Bool) : Type 0 where
  pub same : (d : ℕ) → d < 64 → (d ≡ c % 64 → ⊥) → bit w' d ≡ bit w d
  pub here : bit w (c % 64) ≡ false → bit w' (c % 64) ≡ last

-- the start of line q comes before crossing i
pub record StartsNext (ls : List ℕ) (count i q : ℕ) (r : Bool) : Type 0 where
  pub row : r ≡ true → q < count
  pub before : r ≡ true → i < length ls → q ≤ get_or ls i 0
  pub after : r ≡ false → q < count → i < length ls
  pub beyond : r ≡ false → q < count → get_or ls i 0 < q

-- column c is put among the columns, and into its word of lasts
pub record ColumnPut (cols : List ℕ) (w : ℕ) (cols' : List ℕ) (w' c col : ℕ) (last : Bool) : Type 0 where
  pub long : length cols' ≡ columns
  pub here : get_or cols' c 0 ≡ col
  pub same : (j : ℕ) → (j ≡ c → ⊥) → get_or cols' j 0 ≡ get_or cols j 0
  pub lasts : LastPut w w' c last

-- the start of the cursor's line can become its column
pub record StartReady (names : ℕ) (rows ls : List ℕ) (count : ℕ) (cols : List ℕ) (at : Word) : Type 0 where
  pub whole : WholeRows names rows count
  pub few : count ≤ 4294967296
  pub wide : length cols ≡ columns
  pub narrow : at.next.c < columns
  pub crossing : at.next.i ≤ length ls
  pub row : at.next.q < count

pub record StartPut (names : ℕ) (rows ls cols : List ℕ) (at : Word) (cols' : List ℕ) (at' : Word) : Type 0 where
  pub put : ColumnPut cols at.lasts cols' at'.lasts at.next.c (columns + at.next.q) (over_at ls at.next.q at.next.i)
  pub next : NextInside names rows (at.next.q + 1) at'.next.q
  pub same : at'.next.i ≡ at.next.i
  pub more : at'.next.c ≡ at.next.c + 1

-- the cursor's crossing can become its column, of the block that begins at crossing a
pub record CrossingReady (cols : List ℕ) (a : ℕ) (at : Word) : Type 0 where
  pub wide : length cols ≡ columns
  pub narrow : at.next.c < columns
  pub few : at.next.i < 18446744073709551615
  pub on : a ≤ at.next.i
  pub gone : at.next.i ≤ a + at.next.c

pub record CrossingPut (cols : List ℕ) (a : ℕ) (last : Bool) (at : Word) (cols' : List ℕ) (at' : Word) : Type 0 where
  pub put : ColumnPut cols at.lasts cols' at'.lasts at.next.c (at.next.i - a) last
  pub next : at'.next.i ≡ at.next.i + 1
  pub same : at'.next.q ≡ at.next.q
  pub more : at'.next.c ≡ at.next.c + 1

-- n columns of the block at cursor i, q are planned, and the cursor is at i', q'
pub record Planning (names : ℕ) (c : LineLists) (i q : ℕ) (p : Plan) (n i' q' : ℕ) : Type 0 where
  pub sized : PlanSized p
  pub narrow : n ≤ columns
  pub cursor : AtCursor names c i' q'
  pub on : i ≤ i'
  pub gone : i' ≤ i + n
  pub enough : n ≤ length (left_at names c i q)
  pub are : (j : ℕ) → j < n → held_at names c i p j ≡ view_at (left_at names c i q) j
  pub within : (j : ℕ) → j < n → HeldWithin names c i p j
  pub left : left_at names c i' q' ≡ drop n (left_at names c i q)

-- the same whatever the positions and the shapes are, if the lists are accepted
pub record PlanningOf (names : ℕ) (rows ls : List ℕ) (count : ℕ) (i q : ℕ) (p : Plan) (n i' q' : ℕ) : Type 0 where
  pub whole : WholeRows names rows count
  pub few : count ≤ 4294967296
  pub sized : PlanSized p
  pub narrow : n ≤ columns
  pub crossing : i' ≤ length ls
  pub row : q' ≤ count
  pub on : i ≤ i'
  pub gone : i' ≤ i + n
  pub all : (ps : List ℤ) (ss : List ℕ) → Accepted names (line_lists rows ls ps ss) → AtCursor names (line_lists rows ls ps ss) i q → Planning names (line_lists rows ls ps ss) i q p n i' q'

-- a word of columns comes next
pub record WordNext (names : ℕ) (rows ls : List ℕ) (count : ℕ) (i q : ℕ) (p : Plan) (f : Cursor) : Type 0 where
  pub planning : PlanningOf names rows ls count i q p f.c f.i f.q
  pub words : f.c % 64 ≡ 0
  pub more : f.c < columns

-- the word of lasts from column c on is in hand, and says of no column from the cursor's on
pub record WordPlanning (names : ℕ) (rows ls : List ℕ) (count : ℕ) (i q : ℕ) (lasts : List ℕ) (c : ℕ) (cols : List ℕ) (at : Word) : Type 0 where
  pub planning : PlanningOf names rows ls count i q (planned cols (set lasts (c / 64) at.lasts)) at.next.c at.next.i at.next.q
  pub words : c % 64 ≡ 0
  pub more : c < columns
  pub from : c ≤ at.next.c
  pub most : at.next.c ≤ c + 64
  pub off : (d : ℕ) → at.next.c ≤ c + d → d < 64 → bit at.lasts d ≡ false

-- the crossings from the cursor's on, to the one before stop, can become columns
pub record UntilReady (ls cols : List ℕ) (a stop : ℕ) (at : Word) : Type 0 where
  pub wide : length cols ≡ columns
  pub room : stop + at.next.c ≤ columns + at.next.i
  pub there : stop ≤ length ls
  pub crossing : at.next.i ≤ length ls
  pub on : a ≤ at.next.i
  pub gone : at.next.i ≤ a + at.next.c

-- the first of them are columns: whatever block they are of, if its next start is not before line limit
pub record UntilPut (ls : List ℕ) (a limit stop : ℕ) (cols : List ℕ) (at : Word) (cols' : List ℕ) (at' : Word) : Type 0 where
  pub further : at.next.c ≤ at'.next.c
  pub planning : (names : ℕ) (rows : List ℕ) (count q₀ : ℕ) (lasts : List ℕ) (c₀ : ℕ) → (at.next.q < count → limit ≤ at.next.q) → stop + at.next.c ≤ c₀ + 64 + at.next.i
      → WordPlanning names rows ls count a q₀ lasts c₀ cols at → WordPlanning names rows ls count a q₀ lasts c₀ cols' at'

-- the crossings from the cursor's on can become the columns to end
pub record CrossingsReady (ls cols : List ℕ) (a end : ℕ) (at : Word) : Type 0 where
  pub wide : length cols ≡ columns
  pub narrow : end ≤ columns
  pub room : at.next.c < end
  pub crossing : at.next.i < length ls
  pub on : a ≤ at.next.i
  pub gone : at.next.i ≤ a + at.next.c

-- one or more of them are columns: whatever block they are of, if its next start is not before the cursor's crossing
pub record CrossingsPut (ls : List ℕ) (count a end : ℕ) (cols : List ℕ) (at : Word) (cols' : List ℕ) (at' : Word) : Type 0 where
  pub further : at.next.c < at'.next.c
  pub planning : (names : ℕ) (rows : List ℕ) (q₀ : ℕ) (lasts : List ℕ) (c₀ : ℕ) → StartsNext ls count at.next.i at.next.q false → end ≡ c₀ + 64
      → WordPlanning names rows ls count a q₀ lasts c₀ cols at → WordPlanning names rows ls count a q₀ lasts c₀ cols' at'

-- the word from column c on is planned, to the cursor's column; its columns are fewer than 64 only where nothing is left
pub record WordPlanned (names : ℕ) (rows ls : List ℕ) (count : ℕ) (i q : ℕ) (p : Plan) (c : ℕ) (f : Cursor) : Type 0 where
  pub planning : PlanningOf names rows ls count i q p f.c f.i f.q
  pub from : c ≤ f.c
  pub most : f.c ≤ c + 64
  pub crossing : f.c < c + 64 → length ls ≤ f.i
  pub row : f.c < c + 64 → count ≤ f.q

-- what a plan is made of: whole rows, a cursor within the lists
pub record CanPlan (names : ℕ) (rows ls : List ℕ) (count : ℕ) (p : Plan) (i q : ℕ) : Type 0 where
  pub whole : WholeRows names rows count
  pub few : count ≤ 4294967296
  pub sized : PlanSized p
  pub crossing : i ≤ length ls
  pub row : q ≤ count

-- whatever the positions and the shapes are, if the lists are accepted: the block at cursor i, q is planned, and i', q' is the cursor after it
pub record PlanMade (names : ℕ) (rows ls : List ℕ) (p : Plan) (i q n i' q' : ℕ) : Type 0 where
  pub sized : PlanSized p
  pub narrow : n ≤ columns
  pub crossing : i' ≤ length ls
  pub row : q' ≤ row_count names rows
  pub block : (ps : List ℤ) (ss : List ℕ) → Accepted names (line_lists rows ls ps ss) → AtCursor names (line_lists rows ls ps ss) i q → BlockPlanned names (line_lists rows ls ps ss) i q p n i' q'
  pub next : (ps : List ℤ) (ss : List ℕ) → Accepted names (line_lists rows ls ps ss) → AtCursor names (line_lists rows ls ps ss) i q → AtCursor names (line_lists rows ls ps ss) i' q'

-- ---- a block of crossings alone

-- the next n columns are crossings: a block full, or all that are left
pub record RunsOn (ls : List ℕ) (count i q n : ℕ) : Type 0 where
  pub most : n ≤ columns
  pub there : i + n ≤ length ls
  pub whole : 0 < n → n < columns → i + n ≡ length ls
  pub before : 0 < n → q < count → get_or ls (i + n - 1) 0 < q
