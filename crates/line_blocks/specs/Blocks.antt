-- What a block of the pass is made of, and what the pass over the blocks keeps, whatever is done with the walls.
use Rattle.std.specs.Prelude.{ℕ, ◌*◌, ◌<◌, ◌≤◌, ◌≡◌, Bool, true, false, List, ◌++◌, length, take, get_or}
use Rattle.std.proofs.Math.Option.{Option}
use Rattle.formula.specs.Formula.{Formula, postfix, Over}
use Rattle.formula.specs.States.{State}
use Rattle.lines.specs.Lines.{LineLists, line_lists, row_count, start_state, Wall, Edge}
use Rattle.lines.specs.AtIndex.{Accepted}
use Rattle.lines.specs.Columns.{Column}
use Rattle.lines.specs.Views.{Passed}
use Rattle.line_checking.specs.Verdicts.{InAir}
use Rattle.line_lists.specs.Block.{columns, planned, SaidNumbered}
use Rattle.line_lists.specs.declared.Crossings.{Crossings}
use Rattle.line_strips.specs.Strips.{flips_at, last_at, Filled}
use Rattle.line_strips.specs.Filling.{Entered}
use Rattle.line_words.specs.Stretches.{Workable, StandFor}
use Rattle.line_words.specs.Evaluating.{Evaluable, Root}
use Rattle.line_words.specs.declared.Arranged.{Arranged}
use Rattle.line_columns.specs.Planned.{left_at, PlanSized}
use Rattle.line_columns.specs.Planning.{AtCursor, NextInside}
use Rattle.line_writing.specs.Finishing.{Held, held, event_edge, event_line, walls_by, open_by, is_open_edge}
use Rattle.line_writing.specs.Spots.{EventHeld}
use Rattle.line_blocks.specs.declared.Call.{Call}
use Rattle.line_blocks.specs.declared.Pass.{Pass}

-- the lists of a call
abbrev pub call_lists : List ℕ → Crossings → LineLists
call_lists rows x = line_lists rows x.line.now x.at.now x.shape.now

-- ---- a block's row

-- the shapes' rows have the states after each column, and the row is what the formula says of them
pub record RowMade (table : List ℕ) (arranged : Arranged) (names : ℕ) (rows shapes cols lasts : List ℕ) (a n : ℕ) (going_on : Bool) (words words' row : List ℕ) : Type 0 where
  pub long : length words' ≡ length words
  pub filled : (c : LineLists) (first : State) → c.rows ≡ rows → c.shapes ≡ shapes → Entered names going_on words first → Filled names (flips_at names c a (planned cols lasts)) (last_at (planned cols lasts)) first words' n
  pub root : (codes : List ℕ) → StandFor codes table arranged → Root names codes words' row

-- ---- the pass

-- the formula arranged: the table stands for one
pub record Standing (table : List ℕ) (arranged : Arranged) (names : ℕ) : Type 0 where
  pub formula : Formula
  pub stands : StandFor (postfix formula) table arranged
  pub over : Over names formula

-- the arrays of a block, of their sizes, with the columns numbered where it is said
pub record Sized (cols lasts events : List ℕ) (numbered : Bool) : Type 0 where
  pub plan : PlanSized (planned cols lasts)
  pub events_sized : length events ≡ 2 * columns
  pub said : SaidNumbered cols numbered

-- the columns that are left
abbrev pub left_of : ℕ → LineLists → Pass → List Column
left_of names c p = left_at names c p.cursor.i p.cursor.q

-- of a formula's walls these are found and this one is open, and the rest are those of the columns left; the shapes' rows have the states, if a column is left
pub record Passing (f : Formula) (names : ℕ) (c : LineLists) (i q : ℕ) (going_on : Bool) (words : List ℕ) (from : Option Edge) (done : List Wall) : Type 0 where
  pub state : State
  pub passed : Passed f names c done state from (left_at names c i q)
  pub entered : 0 < length (left_at names c i q) → Entered names going_on words state

abbrev pub PassingAt : Formula → ℕ → LineLists → Pass → List ℕ → Option Edge → List Wall → Type 0
PassingAt f names c p words from done = Passing f names c p.cursor.i p.cursor.q p.onward words from done

pub record Going (table : List ℕ) (arranged : Arranged) (names : ℕ) (c : LineLists) (words : List ℕ) (p : Pass) : Type 0 where
  pub evaluable : Evaluable table words arranged
  pub standing : Standing table arranged names
  pub taken : Accepted names c
  pub cursor : AtCursor names c p.cursor.i p.cursor.q

-- ---- one block

-- which has a column
pub record BlockAsk (table : List ℕ) (arranged : Arranged) (names : ℕ) (c : LineLists) (words : List ℕ) (p : Pass) : Type 0 where
  pub going : Going table arranged names c words p
  pub left : 0 < length (left_of names c p)

abbrev pub held_in : LineLists → Pass → List ℕ → Held
held_in c p cols = held c.lines c.positions c.shapes p.cursor.i cols

-- where its events stand
abbrev pub edge_in : ℕ → LineLists → Pass → List ℕ → ℕ → Edge
edge_in names c p cols = event_edge (start_state names c.rows) (held_in c p cols)

abbrev pub line_in : LineLists → Pass → List ℕ → ℕ → ℕ
line_in c p cols = event_line (held_in c p cols)

-- what the pass has found before the block, and what it has found after the block's events
pub record BlockMade (table : List ℕ) (arranged : Arranged) (names : ℕ) (c : LineLists) (words : List ℕ) (p : Pass) (metal : Bool) (words' cols lasts events : List ℕ) (next : Pass) (m : ℕ) : Type 0 where
  pub going : Going table arranged names c words' next
  pub long : length words' ≡ length words
  pub sized : Sized cols lasts events next.numbered
  pub fewer : length (left_of names c next) < length (left_of names c p)
  pub few : m ≤ 2 * columns
  pub each : (k : ℕ) → k < m → EventHeld (held_in c p cols) (get_or events k 0)
  pub passes : (f : Formula) → StandFor (postfix f) table arranged → Over names f → (from : Option Edge) (done : List Wall) → is_open_edge from ≡ metal → PassingAt f names c p words from done
      → PassingAt f names c next words' (open_by (edge_in names c p cols) from (take m events)) (done ++ walls_by (edge_in names c p cols) (line_in c p cols) from (take m events))

-- ---- the whole

-- what is said of the rows: that every line starts in air, or nothing
pub record SaidOf (air : Bool) (rows : List ℕ) : Type 0 where
  pub so : air ≡ true → InAir rows

-- a pass that has done nothing
pub record Begun (names : ℕ) (rows : List ℕ) (p : Pass) : Type 0 where
  pub crossing : p.cursor.i ≡ 0
  pub line : NextInside names rows 0 p.cursor.q
  pub onward : p.onward ≡ false
  pub numbered : p.numbered ≡ false

pub record CanPass (table : List ℕ) (arranged : Arranged) (names : ℕ) (air : Bool) (c : LineLists) (words : List ℕ) : Type 0 where
  pub evaluable : Evaluable table words arranged
  pub standing : Standing table arranged names
  pub taken : Accepted names c
  pub said : SaidOf air c.rows

-- the codes are a formula's over these names
pub record FewCodes (codes : List ℕ) (names : ℕ) : Type 0 where
  pub few_codes : length codes ≤ 2048
  pub some_names : 0 < names
  pub few_names : names ≤ 256
  pub formula : Formula
  pub are : codes ≡ postfix formula
  pub over : Over names formula

-- their call, with the formula arranged in a table
pub record CallMade (codes : List ℕ) (names : ℕ) (air : Bool) (rows table : List ℕ) (call : Call) : Type 0 where
  pub workable : Workable table call.arranged
  pub stands : StandFor codes table call.arranged
  pub named : call.names ≡ names
  pub counted : call.count ≡ row_count call.names rows
  pub said : call.air ≡ air
