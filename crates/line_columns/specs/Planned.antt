-- The block of columns that begins at a cursor, as arrays hold it.
use Rattle.std.specs.Prelude.{ℕ, ◌+◌, ◌-◌, ◌<◌, ◌≤◌, ◌≡◌, true, cond, List, get_or, length, drop}
use Rattle.lines.specs.Lines.{LineLists, entries, row_count, start_state, shape_at}
use Rattle.lines.specs.Columns.{Column, start_column, crossing_column, starts_from, columns_of}
use Rattle.lines.specs.Views.{View, view_at}
use Rattle.lines.specs.AtIndex.{item, group_ends_at}
use Rattle.line_lists.specs.Block.{Plan, wide, columns, is_start, start_line}
use Rattle.line_strips.specs.Strips.{last_at}

-- the columns left at a cursor: of the crossings from i on, and of the lines from q on with a shape inside at their start
abbrev pub left_at : ℕ → LineLists → ℕ → ℕ → List Column
left_at names c i q = columns_of (start_state names c.rows) (shape_at (start_state names c.rows) (entries c)) (starts_from names (start_state names c.rows) (row_count names c.rows - q) q) (drop i (entries c))

-- column j of a block whose first crossing is a, as its arrays hold it: a line's start
abbrev pub start_held : ℕ → LineLists → Plan → ℕ → View
start_held names c p j = record { column = start_column (start_state names c.rows) (start_line p.cols j); ends = true; last = last_at p j }

-- or a crossing
abbrev pub crossing_held : ℕ → LineLists → ℕ → Plan → ℕ → View
crossing_held names c a p j = record { column = crossing_column (shape_at (start_state names c.rows) (entries c)) (item c.lines c.positions c.shapes (a + get_or p.cols j 0)); ends = group_ends_at c.lines c.positions (a + get_or p.cols j 0); last = last_at p j }

unfoldable pub held_at : ℕ → LineLists → ℕ → Plan → ℕ → View
held_at names c a p j = cond (is_start p.cols j) (start_held names c p j) (crossing_held names c a p j)

-- the row or the crossing of a column is there
pub record HeldWithin (names : ℕ) (c : LineLists) (a : ℕ) (p : Plan) (j : ℕ) : Type 0 where
  pub row : columns ≤ get_or p.cols j 0 → start_line p.cols j < row_count names c.rows
  pub crossing : get_or p.cols j 0 < columns → a + get_or p.cols j 0 < length c.lines

-- arrays of the size that a block needs
pub record PlanSized (p : Plan) : Type 0 where
  pub cols : length p.cols ≡ columns
  pub lasts : length p.lasts ≡ wide

-- the n columns at cursor i, q, and what is left after them at cursor i', q'; fewer than a block has only where nothing is left, or where a line ends
pub record BlockPlanned (names : ℕ) (c : LineLists) (i q : ℕ) (p : Plan) (n i' q' : ℕ) : Type 0 where
  pub sized : PlanSized p
  pub narrow : n ≤ columns
  pub enough : n ≤ length (left_at names c i q)
  pub are : (j : ℕ) → j < n → held_at names c i p j ≡ view_at (left_at names c i q) j
  pub within : (j : ℕ) → j < n → HeldWithin names c i p j
  pub left : left_at names c i' q' ≡ drop n (left_at names c i q)
  pub full : n < columns → 0 < length (left_at names c i' q') → (1 ≤ n) × (last_at p (n - 1) ≡ true)
