-- Demand 2 for lines: the walls of accepted lists are the only right list.
use Prim.Native.Nat.{ℕ, ◌+◌, ◌/◌, ◌≤◌}
use native.Mathlib.Omega.{arith}
use mathlib.Core.Path.{◌≡◌, refl, sym, ap, ◌∙◌, subst}
use mathlib.Core.Bool.{◌&&◌}
use mathlib.Core.List.{List, [], ◌∷◌}
use lib.Dec.{ltb}
use lib.IntN.{ℤ}
use lib.ListN.{length}
use lib.Signed.{le_z, lt_z}
use Rattle.outcome.specs.Outcome.{given, ◌>>◌}
use Rattle.formula.specs.Formula.{Formula, inside}
use Rattle.formula.specs.States.{State}
use Rattle.lines.specs.Lines.{LineLists, row_count, start_state, low, high, Crossing, entries, judged, AnswerLists, roomy_lists, state_at, shape_at, Wall, walls, classified}
use Rattle.lines.specs.Right.{covers, Rising, Bounded, Right}
use Rattle.lines.specs.Edges.{Bound}
use Rattle.lines.proofs.LinesBy.{lines_by, from_by}
use Rattle.lines.proofs.LinesRight.{lines_rise, lines_cells}
use Rattle.lines.proofs.RisingOnly.{rising-only}
use Rattle.lines.proofs.Edges.{view-shape, ends_bounded}
use Rattle.lines.proofs.WallShapes.{Shaped, lines_shaped}
use Rattle.lines.proofs.Judgement.{InOrder, both, judged_in_order}

module _ (start : ℕ → State) (xs : List Crossing) where
  -- the walls name the shapes that bound them
  named : (ws : List Wall) → Shaped (shape_at start xs) ws → Bound start xs ws → Bounded start xs ws
  named [] s b = tt
  named (w ∷ ws) s b = ((rw s.0.0 b.0.0, rw s.0.1 b.0.1), named ws s.1 b.1)

  found_right : (f : Formula) (names rows : ℕ) → names ≤ 256 → InOrder names rows xs → Right f rows start xs (lines_by (inside f) start (shape_at start xs) rows 0 xs)
  found_right f names rows few all = record { cells = covered; rising = risen; shapes = named ws shaped (ends_bounded start xs f names rows few all ws risen covered) }
    where
      ws : List Wall
      ws = lines_by (inside f) start (shape_at start xs) rows 0 xs

      covered : (l : ℕ) (p : ℤ) → covers l p ws ≡ (ltb l rows && (le_z low p && (lt_z p high && inside f (state_at start xs l p))))
      covered l p =
          let e : 0 + rows ≡ rows = omega arith in
          lines_cells (inside f) start (shape_at start xs) xs rows all.sorted all.kept rows 0 l p (omega arith)
          ∙ ap (λ (n : ℕ). ltb l n && (le_z low p && (lt_z p high && inside f (state_at start xs l p)))) e

      risen : Rising ws
      risen = lines_rise (inside f) start (shape_at start xs) xs rows all.sorted all.kept rows 0

      shaped : Shaped (shape_at start xs) ws
      shaped = lines_shaped (shape_at start xs) (inside f) start (λ l. view-shape start xs rows l low all.kept refl) (λ l. view-shape start xs rows l high all.kept refl) rows 0 xs

-- The walls of accepted lists are right.
pub walls-right : (f : Formula) (names : ℕ) → names ≤ 256 → (c : LineLists) → judged names c ≡ given tt → Right f (row_count names c.rows) (start_state names c.rows) (entries c) (walls f names c)
walls-right f names few c e =
    let start : ℕ → State = start_state names c.rows in
    let rows : ℕ = row_count names c.rows in
    rw (from_by (inside f) start (entries c) rows 0) (found_right start (entries c) f names rows few (judged_in_order names c e))

-- No other list is.
pub right-only : (f : Formula) (rows : ℕ) (start : ℕ → State) (xs : List Crossing) (vs ws : List Wall) → Right f rows start xs vs → Right f rows start xs ws → vs ≡ ws
right-only f rows start xs vs ws a b = rising-only start xs vs ws a.rising b.rising (λ l p. a.cells l p ∙ sym (b.cells l p)) a.shapes b.shapes

-- Wherever a wall that covers such cells begins or ends, short of the end marks, some shape's state changes: there is a shape to name.
pub edge_bounded : (f : Formula) (names : ℕ) → names ≤ 256 → (c : LineLists) → judged names c ≡ given tt → (ws : List Wall) → Rising ws
    → ((l : ℕ) (p : ℤ) → covers l p ws ≡ (ltb l (row_count names c.rows) && (le_z low p && (lt_z p high && inside f (state_at (start_state names c.rows) (entries c) l p)))))
    → Bound (start_state names c.rows) (entries c) ws
edge_bounded f names few c e = ends_bounded (start_state names c.rows) (entries c) f names (row_count names c.rows) few (judged_in_order names c e)

-- So what the line job gives is right.
pub classified-right : (f : Formula) (names : ℕ) → names ≤ 256 → (c : LineLists) (lent : AnswerLists) (ws : List Wall) → classified f names c lent ≡ given ws
    → Right f (row_count names c.rows) (start_state names c.rows) (entries c) ws
unfolding classified
classified-right f names few c lent ws e =
    let all : List Wall = walls f names c in
    let rows : ℕ = row_count names c.rows in
    let rooms = roomy_lists (length c.lines / 2 + rows) lent in
    let a = both (judged names c) (rooms >> given all) ws e in
    let b = both rooms (given all) ws a.1 in
    let same : all ≡ ws = cc b.1 in
    subst (λ (vs : List Wall). Right f rows (start_state names c.rows) (entries c) vs) same (walls-right f names few c a.0)
