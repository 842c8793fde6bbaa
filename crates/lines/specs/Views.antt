-- The columns one by one, each with what looking ahead tells of it: what a pass that goes block by block keeps. `proofs/BlockWalls.antt` ties it to the walls of the columns.
use Rattle.std.specs.Prelude.{ℕ, zero, suc, ◌≤◌, ◌<◌, ◌≡◌, Bool, true, false, List, [], ◌∷◌, ◌++◌, drop, length}
use Rattle.std.proofs.Math.Option.{Option, none}
use Rattle.formula.specs.Formula.{Formula, inside}
use Rattle.formula.specs.States.{State, outside}
use Rattle.lines.specs.Lines.{LineLists, low, high, Wall, Edge, open_end, opened, closed, walls}
use Rattle.lines.specs.Columns.{Column, flipped_by, last_column, ends_columns, column_walls}

-- a column; all that stands at its position has acted; it is the last of its line
pub record View : Type 0 where
  pub column : Column
  pub ends : Bool
  pub last : Bool

-- the first of some columns
abbrev pub view_of : List Column → View
view_of [] = record { column = record { line = 0; at = low; flips = outside; shape = 65535 }; ends = true; last = true }
view_of (x ∷ xs) = record { column = x; ends = ends_columns x xs; last = last_column x xs }

-- the i-th column, from 0
abbrev pub view_at : List Column → ℕ → View
view_at xs i = view_of (drop i xs)

abbrev pub column_edge : Column → Edge
column_edge x = record { at = x.at; shape = x.shape }

-- after a column: the states, and the open wall where there is metal or not
abbrev pub state_next : State → View → State
state_next state m = elim m.last [ true ↦ outside | false ↦ flipped_by m.column.flips state ]

abbrev open_here : Bool → Option Edge → View → Option Edge
open_here metal from m = opened m.ends metal from (column_edge m.column)

abbrev pub next_open : Bool → Option Edge → View → Option Edge
next_open metal from m = elim m.last [ true ↦ none | false ↦ open_here metal from m ]

-- the wall that a column finishes
abbrev pub finished : Bool → Option Edge → View → List Wall
finished metal from m =
    closed m.ends metal from m.column.line (column_edge m.column) ++ elim m.last [
      | true ↦ closed true false (open_here metal from m) m.column.line (open_end high)
      | false ↦ []
    ]

-- the same after the first n columns of a block, where `metal` says of each whether there is metal after it
unfoldable pub state_after : (ℕ → View) → State → ℕ → State
state_after at state zero = state
state_after at state (suc n) = state_next (state_after at state n) (at n)

unfoldable pub open_after : (ℕ → View) → (ℕ → Bool) → Option Edge → ℕ → Option Edge
open_after at metal from zero = from
open_after at metal from (suc n) = next_open (metal n) (open_after at metal from n) (at n)

unfoldable pub walls_after : (ℕ → View) → (ℕ → Bool) → Option Edge → ℕ → List Wall
walls_after at metal from zero = []
walls_after at metal from (suc n) = walls_after at metal from n ++ finished (metal n) (open_after at metal from n) (at n)

-- there is metal after column j of a block
abbrev pub metal_at : (State → Bool) → (ℕ → View) → State → ℕ → Bool
metal_at solid at state j = solid (flipped_by (at j).column.flips (state_after at state j))

-- a pass has found some walls, with these states and this open wall, and these columns are left
pub record Passed (f : Formula) (names : ℕ) (c : LineLists) (done : List Wall) (state : State) (from : Option Edge) (left : List Column) : Type 0 where
  pub all : walls f names c ≡ done ++ column_walls (inside f) state from left

-- the first n columns that are left are a block, and `metal` says of each whether there is metal after it
pub record Lit (f : Formula) (state : State) (left : List Column) (at : ℕ → View) (metal : ℕ → Bool) (n : ℕ) : Type 0 where
  pub enough : n ≤ length left
  pub are : (j : ℕ) → j < n → at j ≡ view_at left j
  pub lit : (j : ℕ) → j < n → metal j ≡ metal_at (inside f) at state j
