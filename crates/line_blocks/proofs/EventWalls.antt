-- Going through a block's events gives the walls that its columns finish, and the open one that they leave.
use Prim.Native.Nat.{ℕ, zero, suc, ◌+◌, ◌<◌}
use native.Mathlib.Omega.{arith}
use mathlib.Core.Path.{◌≡◌, refl, sym, ap, ◌∙◌}
use mathlib.Core.Bool.{Bool, true, false}
use mathlib.Core.List.{List, [], ◌++◌}
use mathlib.Core.Option.{Option, none, some}
use Rattle.lines.specs.Lines.{high, Wall, Edge, open_end, opened, closed}
use Rattle.lines.specs.Views.{View, column_edge, next_open, finished, open_after, walls_after}
use Rattle.lines.proofs.BlockWalls.{open_zero, open_more, walls_zero, walls_more}
use Rattle.line_lists.specs.Block.{columns}
use Rattle.line_events.specs.Events.{events_at, metal_next, metal_after, events_after}
use Rattle.line_events.proofs.ListedLaws.{events_zero, events_more, metal_zero, metal_more}
use Rattle.line_writing.specs.Finishing.{walls_by, open_by, is_open_edge}
use Rattle.line_writing.proofs.FinishLaws.{walls_app, open_app}

module _ (edge : ℕ → Edge) (line : ℕ → ℕ) where
  module _ (at : ℕ → View) (bits : ℕ → Bool) where
    abbrev ends : ℕ → Bool
    ends j = (at j).ends

    abbrev last : ℕ → Bool
    last j = (at j).last

    -- what the events of column j say of where it stands
    pub record Told (j : ℕ) : Type 0 where
      pub change_edge : edge j ≡ column_edge (at j).column
      pub change_line : line j ≡ (at j).column.line
      pub end_edge : edge (columns + j) ≡ open_end high
      pub end_line : line (columns + j) ≡ (at j).column.line

    module _ (j : ℕ) (t : Told j) where
      abbrev here : Edge
      here = column_edge (at j).column

      abbrev l : ℕ
      l = (at j).column.line

      column_walls_lem : (o : Option Edge) → walls_by edge line o (events_at (ends j) (bits j) (last j) (is_open_edge o) j) ≡ finished (bits j) o (at j)
      column_walls_lem o = by (ends j) (bits j) (last j) o
        where
          by : (ends bit last : Bool) (o : Option Edge) → walls_by edge line o (events_at ends bit last (is_open_edge o) j) ≡ closed ends bit o l here ++ elim last [ true ↦ closed true false (opened ends bit o here) l (open_end high) | false ↦ [] ]
          by false bit true none = refl
          by false bit false none = refl
          by false bit true (some a) = rw (t.end_edge, t.end_line)
          by false bit false (some a) = refl
          by true true true none = rw (t.end_edge, t.end_line, t.change_edge)
          by true true false none = refl
          by true true true (some a) = rw (t.end_edge, t.end_line)
          by true true false (some a) = refl
          by true false true none = refl
          by true false false none = refl
          by true false true (some a) = rw (t.change_edge, t.change_line)
          by true false false (some a) = rw (t.change_edge, t.change_line)

      column_opens : (o : Option Edge) → open_by edge o (events_at (ends j) (bits j) (last j) (is_open_edge o) j) ≡ next_open (bits j) o (at j)
      column_opens o = by (ends j) (bits j) (last j) o
        where
          by : (ends bit last : Bool) (o : Option Edge) → open_by edge o (events_at ends bit last (is_open_edge o) j) ≡ elim last [ true ↦ none | false ↦ opened ends bit o here ]
          by false bit true none = refl
          by false bit false none = refl
          by false bit true (some a) = refl
          by false bit false (some a) = refl
          by true true true none = refl
          by true true false none = rw t.change_edge
          by true true true (some a) = refl
          by true true false (some a) = refl
          by true false true none = refl
          by true false false none = refl
          by true false true (some a) = refl
          by true false false (some a) = refl

    open_next : (j : ℕ) (o : Option Edge) → is_open_edge (next_open (bits j) o (at j)) ≡ metal_next (ends j) (bits j) (last j) (is_open_edge o)
    open_next j o = by (ends j) (bits j) (last j) o
      where
        by : (ends bit last : Bool) (o : Option Edge) → is_open_edge (elim last [ true ↦ none | false ↦ opened ends bit o (column_edge (at j).column) ]) ≡ metal_next ends bit last (is_open_edge o)
        by ends bit true o = refl
        by false bit false o = refl
        by true true false none = refl
        by true true false (some a) = refl
        by true false false none = refl
        by true false false (some a) = refl

    module _ (o : Option Edge) where
      abbrev events : ℕ → List ℕ
      events n = events_after ends bits last (is_open_edge o) n

      -- there is metal where a wall is open
      open_metal : (n : ℕ) → is_open_edge (open_after at bits o n) ≡ metal_after ends bits last (is_open_edge o) n
      open_metal zero = rw (open_zero at bits o, metal_zero ends bits last (is_open_edge o))
      open_metal (suc n) = rw (open_more at bits o n, metal_more ends bits last (is_open_edge o) n) (open_next n (open_after at bits o n) ∙ ap (metal_next (ends n) (bits n) (last n)) (open_metal n))

      pub events_open : (n : ℕ) → ((j : ℕ) → j < n → Told j) → open_by edge o (events n) ≡ open_after at bits o n
      events_open zero h = rw (events_zero ends bits last (is_open_edge o), open_zero at bits o)
      events_open (suc n) h =
          let was : Option Edge = open_after at bits o n in
          ap (open_by edge o) (events_more ends bits last (is_open_edge o) n)
          ∙ open_app edge line o (events n) (events_at (ends n) (bits n) (last n) (metal_after ends bits last (is_open_edge o) n) n)
          ∙ rw (events_open n (λ j l. h j (omega arith)), ← open_metal n)
          (column_opens n (h n (omega arith)) was ∙ sym (open_more at bits o n))

      pub events-walls : (n : ℕ) → ((j : ℕ) → j < n → Told j) → walls_by edge line o (events n) ≡ walls_after at bits o n
      events-walls zero h = rw (events_zero ends bits last (is_open_edge o), walls_zero at bits o)
      events-walls (suc n) h =
          let was : Option Edge = open_after at bits o n in
          ap (walls_by edge line o) (events_more ends bits last (is_open_edge o) n)
          ∙ walls_app edge line o (events n) (events_at (ends n) (bits n) (last n) (metal_after ends bits last (is_open_edge o) n) n)
          ∙ rw (events-walls n (λ j l. h j (omega arith)), events_open n (λ j l. h j (omega arith)), ← open_metal n)
          (ap (λ (ws : List Wall). walls_after at bits o n ++ ws) (column_walls_lem n (h n (omega arith)) was) ∙ sym (walls_more at bits o n))
