-- A column as the block's arrays hold it is the one that the pass and the events speak of.
use Prim.Native.Nat.{ℕ, zero, suc, ◌+◌, ◌-◌, ◌<◌}
use native.Mathlib.Omega.{arith}
use mathlib.Core.Path.{◌≡◌, refl, sym, ap, ◌∙◌}
use mathlib.Core.Bool.{Bool, true, false, cond}
use mathlib.Core.List.{List}
use borrow.Author.Tests.{lt-ltb, le-ltb}
use lib.IntN.{ℤ}
use Rattle.formula.specs.States.{State, outside}
use Rattle.lines.specs.Lines.{LineLists, line_lists, start_state}
use Rattle.lines.specs.Columns.{flipped_by}
use Rattle.lines.specs.Views.{View, column_edge, state_next, state_after}
use Rattle.lines.proofs.BlockWalls.{state_zero, state_more}
use Rattle.line_lists.specs.Block.{Plan, planned, columns, is_start}
use Rattle.line_strips.specs.Strips.{flips_at, last_at, entering}
use Rattle.line_columns.specs.Planned.{start_held, crossing_held, held_at}
use Rattle.line_events.specs.Events.{ends_in}
use Rattle.line_writing.specs.Finishing.{Held, held, column_line, edge_there, event_line, event_edge}
use Rattle.line_blocks.proofs.EventWalls.{Told}

module _ (names : ℕ) (rows ls : List ℕ) (ps : List ℤ) (ss : List ℕ) (a : ℕ) (cols lasts : List ℕ) where
  abbrev c : LineLists
  c = line_lists rows ls ps ss

  abbrev p : Plan
  p = planned cols lasts

  abbrev at : ℕ → View
  at j = held_at names c a p j

  held_flips : (j : ℕ) → (at j).column.flips ≡ flips_at names c a p j
  unfolding held_at flips_at
  held_flips j = by (is_start cols j)
    where
      by : (t : Bool) → (cond t (start_held names c p j) (crossing_held names c a p j)).column.flips ≡ cond t (start_held names c p j).column.flips (crossing_held names c a p j).column.flips
      by true = refl
      by false = refl

  pub held-last : (j : ℕ) → (at j).last ≡ last_at p j
  unfolding held_at
  held-last j = by (is_start cols j)
    where
      by : (t : Bool) → (cond t (start_held names c p j) (crossing_held names c a p j)).last ≡ last_at p j
      by true = refl
      by false = refl

  pub held-ends : (j : ℕ) → (at j).ends ≡ ends_in ls ps a cols j
  unfolding held_at ends_in
  held-ends j = by (is_start cols j)
    where
      by : (t : Bool) → (cond t (start_held names c p j) (crossing_held names c a p j)).ends ≡ cond t true (crossing_held names c a p j).ends
      by true = refl
      by false = refl

  abbrev b : Held
  b = held ls ps ss a cols

  abbrev start : ℕ → State
  start = start_state names rows

  held-edge : (j : ℕ) → edge_there start b j ≡ column_edge (at j).column
  unfolding held_at
  held-edge j = by (is_start cols j)
    where
      by : (t : Bool) → cond t (column_edge (start_held names c p j).column) (column_edge (crossing_held names c a p j).column) ≡ column_edge (cond t (start_held names c p j) (crossing_held names c a p j)).column
      by true = refl
      by false = refl

  held-line : (j : ℕ) → column_line b j ≡ (at j).column.line
  unfolding held_at
  held-line j = by (is_start cols j)
    where
      by : (t : Bool) → cond t (start_held names c p j).column.line (crossing_held names c a p j).column.line ≡ (cond t (start_held names c p j) (crossing_held names c a p j)).column.line
      by true = refl
      by false = refl

  pub held-told : (bits : ℕ → Bool) (j : ℕ) → j < columns → Told (event_edge start b) (event_line b) at bits j
  held-told bits j h =
      let off : columns + j - columns ≡ j = omega arith in
      record {
        change_edge = rw (lt-ltb j columns h) (held-edge j);
        change_line = rw (lt-ltb j columns h) (held-line j);
        end_edge = rw (le-ltb (columns + j) columns (omega arith));
        end_line = rw (le-ltb (columns + j) columns (omega arith), off) (held-line j);
      }

  entering_zero : (first : State) → entering (flips_at names c a p) (last_at p) first 0 ≡ first
  unfolding entering
  entering_zero first = refl

  entering_more : (first : State) (j : ℕ) → entering (flips_at names c a p) (last_at p) first (suc j) ≡ elim (last_at p j) [ true ↦ outside | false ↦ flipped_by (flips_at names c a p j) (entering (flips_at names c a p) (last_at p) first j) ]
  unfolding entering
  entering_more first j = refl

  next_is : (s : State) (j : ℕ) → state_next s (at j) ≡ elim (last_at p j) [ true ↦ outside | false ↦ flipped_by (flips_at names c a p j) s ]
  unfolding held_at flips_at
  next_is s j = by (is_start cols j)
    where
      by : (t : Bool) → state_next s (cond t (start_held names c p j) (crossing_held names c a p j)) ≡ elim (last_at p j) [ true ↦ outside | false ↦ flipped_by (cond t (start_held names c p j).column.flips (crossing_held names c a p j).column.flips) s ]
      by true = refl
      by false = refl

  -- the states that the fill lays are those of the pass
  held_states : (first : State) (j : ℕ) → state_after at first j ≡ entering (flips_at names c a p) (last_at p) first j
  held_states first zero = state_zero at first ∙ sym (entering_zero first)
  held_states first (suc j) =
      state_more at first j
      ∙ ap (λ (s : State). state_next s (at j)) (held_states first j)
      ∙ next_is (entering (flips_at names c a p) (last_at p) first j) j
      ∙ sym (entering_more first j)

  pub held-leaving : (first : State) (j : ℕ) → flipped_by (at j).column.flips (state_after at first j) ≡ flipped_by (flips_at names c a p j) (entering (flips_at names c a p) (last_at p) first j)
  held-leaving first j = rw (held_flips j, held_states first j)
