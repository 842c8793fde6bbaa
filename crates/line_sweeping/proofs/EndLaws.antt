-- Where all that stands at a position has acted.
use Prim.Native.Nat.{ℕ, ◌+◌, ◌≤◌, ◌<◌}
use mathlib.Core.Path.{◌≡◌}
use mathlib.Core.Bool.{Bool, true}
use mathlib.Core.List.{List}
use borrow.Author.Tests.{eq-eqb, ne_eqb, le-leb, lt-leb}
use lib.IntN.{ℤ, pos}
use lib.ListN.{length, get_or}
use lib.Signed.{lt_z}
use Rattle.lines.specs.AtIndex.{group_ends_at}
use Rattle.line_lists.specs.Block.{columns}
use Rattle.line_events.specs.Events.{ends_in}
use Rattle.line_sweeping.specs.Sweeping.{ColumnThere}

module _ (ls : List ℕ) (ps : List ℤ) (i : ℕ) where
  pub ends_list : i + 1 ≡ length ls → true ≡ group_ends_at ls ps i
  ends_list e = rw (eq-eqb (i + 1) (length ls) e)

  pub ends_line : (i + 1 ≡ length ls → ⊥) → (get_or ls (i + 1) 0 ≡ get_or ls i 0 → ⊥) → true ≡ group_ends_at ls ps i
  ends_line n h = rw (ne_eqb (i + 1) (length ls) n, ne_eqb (get_or ls (i + 1) 0) (get_or ls i 0) h)

  pub ends_place : (i + 1 ≡ length ls → ⊥) → get_or ls (i + 1) 0 ≡ get_or ls i 0 → (r : Bool) → r ≡ lt_z (get_or ps i (pos 0)) (get_or ps (i + 1) (pos 0)) → r ≡ group_ends_at ls ps i
  ends_place n e r h = rw (ne_eqb (i + 1) (length ls) n, eq-eqb (get_or ls (i + 1) 0) (get_or ls i 0) e) h

module _ (ls : List ℕ) (ps : List ℤ) (a : ℕ) (cols : List ℕ) (c : ℕ) where
  pub ends_start : columns ≤ get_or cols c 0 → true ≡ ends_in ls ps a cols c
  unfolding ends_in
  ends_start e = rw (le-leb columns (get_or cols c 0) e)

  pub ends_crossing : get_or cols c 0 < columns → (r : Bool) → r ≡ group_ends_at ls ps (a + get_or cols c 0) → r ≡ ends_in ls ps a cols c
  unfolding ends_in
  ends_crossing n r h = rw (lt-leb columns (get_or cols c 0) n) h

  pub there_crossing : ColumnThere ls ps a cols c → get_or cols c 0 < columns → a + get_or cols c 0 < length ls
  there_crossing t n = t.crossing n

  pub there_long : ColumnThere ls ps a cols c → length ps ≡ length ls
  there_long t = t.long
