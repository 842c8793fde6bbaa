-- How the lines are gone through, and written one after another into the lists that are lent.
use Rattle.std.specs.Prelude.{ℕ, ◌+◌, ◌*◌, ◌<◌, ◌≤◌, ◌≡◌, List, ◌++◌, map, length, take, drop, Float}
use Rattle.outcome.specs.Lent.{filled}
use Rattle.lines.specs.Lines.{LineLists}
use Rattle.cross_cuts.specs.Cuts.{Cut, start_row, line_crossings, position_of, shape_of}
use Rattle.cross_columns.specs.Columns.{Columns}
use Rattle.cross_hits.specs.Hits.{Clear}
use Rattle.cross_kept.specs.Keeping.{Keeps}
use Rattle.cross_drawn.specs.Drawn.{Drawn, rows_of, lines_from, positions_in, shapes_in}
use Rattle.cross_pass.specs.declared.Pass.{Pass}

-- The drawing stands in columns, what is kept of the lines before it is right, and no byte of a box is set.
pub record Passing (kinds : List ℕ) (numbers : List Float) (pass : Pass) : Type 0 where
  pub few : length kinds ≤ 256
  pub columns : Columns kinds numbers (length kinds) pass.columns.lows pass.columns.highs pass.columns.halves
  pub keeps : Keeps (length kinds) pass.columns.halves pass.columns.lows pass.columns.highs pass.ranks.lessers pass.ranks.greaters pass.kept
  pub clear : Clear pass.columns.halves pass.bytes 0 (length kinds)
  pub lessers_sized : length pass.ranks.lessers ≡ 1024
  pub greaters_sized : length pass.ranks.greaters ≡ 1024
  pub bytes_sized : length pass.bytes ≡ 256
  pub keys_sized : length pass.keys ≡ 512

-- There is room for line k, a row of n and m crossings, where k rows and so many crossings are before it.
pub record RoomFor (k before n m : ℕ) (lent : LineLists) : Type 0 where
  pub few : k < 4294967296
  pub rows : n * k + n ≤ length lent.rows
  pub numbers : before + m ≤ length lent.lines
  pub positions : before + m ≤ length lent.positions
  pub shapes : before + m ≤ length lent.shapes

-- There is room for all of these lines.
pub record Fits (lines : Drawn) (lent : LineLists) : Type 0 where
  pub rows : length (rows_of lines) ≤ length lent.rows
  pub numbers : length (lines_from 0 lines) ≤ length lent.lines
  pub positions : length (lines_from 0 lines) ≤ length lent.positions
  pub shapes : length (lines_from 0 lines) ≤ length lent.shapes

-- From a place on the list is filled, and before it as it was.
abbrev pub filled_from : {A : Type 0} → ℕ → List A → List A → List A
filled_from place new old = take place old ++ filled new (drop place old)

-- One line, with its number, stands where so many crossings and so many bytes are before it.
pub record LinePut (line : List Cut) (number before bytes : ℕ) (lent after : LineLists) : Type 0 where
  pub rows : after.rows ≡ filled_from bytes (start_row line) lent.rows
  pub numbers : after.lines ≡ filled_from before (map (λ x. number) (line_crossings line)) lent.lines
  pub positions : after.positions ≡ filled_from before (map position_of (line_crossings line)) lent.positions
  pub shapes : after.shapes ≡ filled_from before (map shape_of (line_crossings line)) lent.shapes

-- The lists hold these lines, and past them what was lent.
pub record Holding (lines : Drawn) (lent after : LineLists) : Type 0 where
  pub rows : after.rows ≡ filled (rows_of lines) lent.rows
  pub numbers : after.lines ≡ filled (lines_from 0 lines) lent.lines
  pub positions : after.positions ≡ filled (positions_in lines) lent.positions
  pub shapes : after.shapes ≡ filled (shapes_in lines) lent.shapes

-- And so many crossings are written.
pub record AllWritten (lines : Drawn) (lent : LineLists) (crossings : ℕ) (after : LineLists) : Type 0 where
  pub counted : crossings ≡ length (lines_from 0 lines)
  pub holding : Holding lines lent after
