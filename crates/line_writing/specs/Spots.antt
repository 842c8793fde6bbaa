-- What stands at a column and at an event, as numbers.
use Rattle.std.specs.Prelude.{ℕ, ◌*◌, ◌<◌, ◌≡◌, List, ℤ, pos, length, get_or}
use Rattle.std.specs.Prelude as given
use Rattle.std.proofs.Math.Option.{Option, none, some}
use Rattle.formula.specs.States.{State}
use Rattle.lines.specs.Lines.{Edge}
use Rattle.line_lists.specs.Block.{columns, start_line}
use Rattle.line_writing.specs.Groups.{GroupEnd, GroupShape}
use Rattle.line_writing.specs.Finishing.{Held, crossing_of, column_line, column_of, edge_there, event_line, event_edge}
use Rattle.line_writing.specs.declared.spots.Spot.{Spot}
use Rattle.line_writing.specs.declared.spots.Bound.{Bound}

abbrev pub edge_of : Spot → Edge
edge_of p = record { at = p.at; shape = p.shape }

-- the open wall, and where it began
abbrev pub open_from : given.Option Spot → Option Edge
open_from (given.Some p) = some (edge_of p)
open_from given.None = none

-- the crossing of column j is there, if it is one, and the line of a start is one of 4294967296
pub record ColumnHeld (b : Held) (j : ℕ) : Type 0 where
  pub narrow : j < columns
  pub sized : length b.cols ≡ columns
  pub inside : get_or b.cols j 0 < columns → crossing_of b j < length b.lines
  pub line : start_line b.cols j < 4294967296

-- and is the last that acts at its position
pub record ChangeHeld (b : Held) (j : ℕ) : Type 0 where
  pub column : ColumnHeld b j
  pub group : get_or b.cols j 0 < columns → GroupEnd b.lines b.positions b.shapes (crossing_of b j)

pub record EventHeld (b : Held) (e : ℕ) : Type 0 where
  pub column : ColumnHeld b (column_of e)
  pub change : e < columns → ChangeHeld b e

pub record CrossingSpot (ls : List ℕ) (ps : List ℤ) (ss : List ℕ) (i : ℕ) (p : Spot) : Type 0 where
  pub at : p.at ≡ get_or ps i (pos 0)
  pub shape : GroupShape ls ps ss i p.shape

-- a bound at this crossing
pub record CrossingBound (ls : List ℕ) (ps : List ℤ) (ss : List ℕ) (i : ℕ) (p : Bound) : Type 0 where
  pub line : p.line ≡ get_or ls i 0
  pub spot : CrossingSpot ls ps ss i p.here

-- at this column, and at this event: its line, and the edge there, whatever states the lines start in
pub record ColumnBound (b : Held) (j : ℕ) (p : Bound) : Type 0 where
  pub line : p.line ≡ column_line b j
  pub edge : (start : ℕ → State) → edge_of p.here ≡ edge_there start b j

pub record EventBound (b : Held) (e : ℕ) (p : Bound) : Type 0 where
  pub line : p.line ≡ event_line b e
  pub edge : (start : ℕ → State) → edge_of p.here ≡ event_edge start b e

-- event k of those listed can be looked up
pub record EventListed (b : Held) (events : List ℕ) (k : ℕ) : Type 0 where
  pub index : k < 2 * columns
  pub sized : length events ≡ 2 * columns
  pub event : EventHeld b (get_or events k 0)
