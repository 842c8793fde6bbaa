-- Where a column and an event stand.
use Prim.Native.Nat.{ℕ, ◌+◌, ◌-◌, ◌<◌, ◌≤◌}
use mathlib.Core.Path.{◌≡◌, ◌∙◌}
use mathlib.Core.List.{List, []}
use borrow.Author.Tests.{lt-ltb, le-ltb, le-leb, lt-leb}
use lib.IntN.{ℤ}
use lib.ListN.{length, get_or}
use Rattle.lines.specs.Lines.{low, high}
use Rattle.line_lists.specs.Block.{columns, start_line}
use Rattle.line_writing.specs.Groups.{GroupEnd}
use Rattle.line_writing.specs.Finishing.{Held, held, column_line}
use Rattle.line_writing.specs.Spots.{ColumnHeld, ChangeHeld, EventHeld, CrossingBound, ColumnBound, EventBound}
use Rattle.line_writing.specs.declared.spots.Bound.{Bound}

module _ (ls : List ℕ) (ps : List ℤ) (ss : List ℕ) (a : ℕ) (cols : List ℕ) (j : ℕ) where
  pub column_inside : ColumnHeld (held ls ps ss a cols) j → get_or cols j 0 < columns → a + get_or cols j 0 < length ls
  column_inside c n = c.inside n

  pub change_inside : ChangeHeld (held ls ps ss a cols) j → get_or cols j 0 < columns → a + get_or cols j 0 < length ls
  change_inside c n = c.column.inside n

  module _ (n : get_or cols j 0 < columns) (i : ℕ) (is : i ≡ a + get_or cols j 0) where
    pub change_group : ChangeHeld (held ls ps ss a cols) j → GroupEnd ls ps ss i
    change_group c = rw is (c.group n)

    line_crossing : get_or ls i 0 ≡ column_line (held ls ps ss a cols) j
    line_crossing = rw (lt-leb columns (get_or cols j 0) n, is)

    pub bound_crossing : (p : Bound) → CrossingBound ls ps ss i p → ColumnBound (held ls ps ss a cols) j p
    bound_crossing p s =
        record {
          line = s.line ∙ line_crossing;
          edge = λ start. rw (lt-leb columns (get_or cols j 0) n, ← is) (λ k. record { at = s.spot.at k; shape = s.spot.shape.is start k });
        }

  module _ (e : columns ≤ get_or cols j 0) where
    line-start : start_line cols j ≡ column_line (held ls ps ss a cols) j
    line-start = rw (le-leb columns (get_or cols j 0) e)

    pub bound_start : ColumnBound (held ls ps ss a cols) j (record { line = start_line cols j; here = record { at = low; shape = 65535 } })
    bound_start = record { line = line-start; edge = λ start. rw (le-leb columns (get_or cols j 0) e) }

pub line-start-held : (ls : List ℕ) (a : ℕ) (cols : List ℕ) (j : ℕ) → columns ≤ get_or cols j 0 → start_line cols j ≡ column_line (held ls [] [] a cols) j
line-start-held ls a cols j e = line-start ls [] [] a cols j e

pub line_crossing-held : (ls : List ℕ) (a : ℕ) (cols : List ℕ) (j : ℕ) → get_or cols j 0 < columns → (i : ℕ) → i ≡ a + get_or cols j 0 → get_or ls i 0 ≡ column_line (held ls [] [] a cols) j
line_crossing-held ls a cols j n i is = line_crossing ls [] [] a cols j n i is

-- ---- at an event

pub event_change : {b : Held} {e : ℕ} → EventHeld b e → e < columns → ChangeHeld b e
event_change h l = h.change l

pub event_column : (ls : List ℕ) (ps : List ℤ) (ss : List ℕ) (a : ℕ) (cols : List ℕ) (e : ℕ) → EventHeld (held ls ps ss a cols) e → columns ≤ e → ColumnHeld (held ls [] [] a cols) (e - columns)
event_column ls ps ss a cols e t l =
    let c : ColumnHeld (held ls ps ss a cols) (e - columns) = rw (le-ltb e columns l) at t.column in
    record { narrow = c.narrow; sized = c.sized; inside = c.inside; line = c.line }

pub bound_change : {b : Held} {e : ℕ} {p : Bound} → e < columns → ColumnBound b e p → EventBound b e p
bound_change {e = e} l s = record { line = rw (lt-ltb e columns l) s.line; edge = λ start. rw (lt-ltb e columns l) (s.edge start) }

pub bound_end : (ls : List ℕ) (ps : List ℤ) (ss : List ℕ) (a : ℕ) (cols : List ℕ) (e l : ℕ) → columns ≤ e → l ≡ column_line (held ls [] [] a cols) (e - columns) → EventBound (held ls ps ss a cols) e (record { line = l; here = record { at = high; shape = 65535 } })
bound_end ls ps ss a cols e l past is = record { line = rw (le-ltb e columns past) is; edge = λ start. rw (le-ltb e columns past) }
