-- Walls from a block's events, one after another.
use Rattle.std.specs.Prelude.{ℕ, ◌+◌, ◌-◌, Bool, true, false, cond, List, [], ◌∷◌, ◌++◌, ltb, ℤ, pos, get_or}
use Rattle.std.proofs.Math.Option.{Option, none, some}
use Rattle.formula.specs.States.{State}
use Rattle.lines.specs.Lines.{crossings, low, high, shape_at, Wall, Edge, edge_at, open_end, closed}
use Rattle.line_lists.specs.Block.{columns, is_start, start_line}
use Rattle.line_lists.specs.declared.Crossings.{Crossings}

-- The crossings, and the columns of a block whose first crossing is `first`.
pub record Held : Type 0 where
  pub lines : List ℕ
  pub positions : List ℤ
  pub shapes : List ℕ
  pub first : ℕ
  pub cols : List ℕ

abbrev pub held : List ℕ → List ℤ → List ℕ → ℕ → List ℕ → Held
held ls ps ss a cols = record { lines = ls; positions = ps; shapes = ss; first = a; cols = cols }

abbrev pub held_by : Crossings → ℕ → List ℕ → Held
held_by x a cols = held x.line.now x.at.now x.shape.now a cols

-- Column j is a line's start; or else this crossing.
abbrev starting : Held → ℕ → Bool
starting b j = is_start b.cols j

abbrev pub crossing_of : Held → ℕ → ℕ
crossing_of b j = b.first + get_or b.cols j 0

abbrev pub column_line : Held → ℕ → ℕ
column_line b j = cond (starting b j) (start_line b.cols j) (get_or b.lines (crossing_of b j) 0)

-- The edge of a wall that begins or ends at column j, where the lines start in these states.
abbrev pub edge_there : (ℕ → State) → Held → ℕ → Edge
edge_there start b j = cond (starting b j) (open_end low) (edge_at (shape_at start (crossings b.lines b.positions b.shapes)) (get_or b.lines (crossing_of b j) 0) (get_or b.positions (crossing_of b j) (pos 0)))

-- Event e: metal changes at column e, or goes on past a line's last column, which is `columns` less.
abbrev pub column_of : ℕ → ℕ
column_of e = cond (ltb e columns) e (e - columns)

abbrev pub event_line : Held → ℕ → ℕ
event_line b e = column_line b (column_of e)

abbrev pub event_edge : (ℕ → State) → Held → ℕ → Edge
event_edge start b e = cond (ltb e columns) (edge_there start b e) (open_end high)

-- The wall that ends at an event, and where the open one began from then on.
abbrev pub ending : ℕ → Edge → Option Edge → List Wall
ending l here from = closed true false from l here

abbrev pub beginning : Edge → Option Edge → Option Edge
beginning here none = some here
beginning here (some a) = none

abbrev pub walls_by : (ℕ → Edge) → (ℕ → ℕ) → Option Edge → List ℕ → List Wall
walls_by edge line from [] = []
walls_by edge line from (e ∷ es) = ending (line e) (edge e) from ++ walls_by edge line (beginning (edge e) from) es

abbrev pub open_by : (ℕ → Edge) → Option Edge → List ℕ → Option Edge
open_by edge from [] = from
open_by edge from (e ∷ es) = open_by edge (beginning (edge e) from) es

abbrev pub is_open_edge : Option Edge → Bool
is_open_edge none = false
is_open_edge (some a) = true
