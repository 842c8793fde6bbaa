-- How many walls there are: two crossings for each, but for one more on each line.
use Prim.Native.Nat.{ℕ, zero, suc, ◌+◌, ◌*◌, ◌/◌, ◌≤◌}
use native.Mathlib.Omega.{arith}
use mathlib.Core.Path.{◌≡◌, refl, ap}
use mathlib.Core.Bool.{Bool, true, false}
use mathlib.Core.List.{List, [], ◌∷◌, ◌++◌}
use mathlib.Core.Option.{Option, none, some}
use lib.IntN.{ℤ}
use lib.ListN.{length, length-append}
use Rattle.outcome.specs.Outcome.{given}
use Rattle.formula.specs.Formula.{Formula, inside}
use Rattle.formula.specs.States.{State, flipped}
use Rattle.lines.specs.Lines.{LineLists, row_count, start_state, low, high, Crossing, entries, judged, shape_at, Wall, Edge, edge_at, open_end, ends_group, opened, closed, walls_on, crossings_on, walls}
use Rattle.lines.proofs.Crossings.{Sorted}
use Rattle.lines.proofs.OtherLines.{past, OnFrom, past-from, past_sorted, split_line}
use Rattle.lines.proofs.LinesBy.{walls_on_nil, walls_on_cons, walls_of, lines_by, by_none, by_more, by_past, from_by}
use Rattle.lines.proofs.Judgement.{judged_in_order, judged_positions, judged_shapes}
use Rattle.lines.proofs.Items.{length-crossings}
use Rattle.lines.proofs.WallsColumns.{all_from}

abbrev opens : Option Edge → ℕ
opens none = 0
opens (some a) = 1

one_more : (ends metal : Bool) (from : Option Edge) (l : ℕ) (here : Edge) → 2 * length (closed ends metal from l here) + opens (opened ends metal from here) ≤ suc (opens from)
one_more false metal from l here = omega arith
one_more true true none l here = omega arith
one_more true true (some a) l here = omega arith
one_more true false none l here = omega arith
one_more true false (some a) l here = omega arith

last_one : (from : Option Edge) (l : ℕ) (here : Edge) → length (closed true false from l here) ≡ opens from
last_one none l here = refl
last_one (some a) l here = refl

opens_one : (from : Option Edge) → opens from ≤ 1
opens_one none = omega arith
opens_one (some a) = omega arith

module _ (solid : State → Bool) (start : ℕ → State) (shape : ℕ → ℤ → ℕ) where
  line-from : (l : ℕ) (xs : List Crossing) (state : State) (from : Option Edge) → 2 * length (walls_on solid shape l state from xs) ≤ length xs + opens from + 1
  line-from l [] state from = rw (walls_on_nil solid shape l state from) (omega (arith, last_one from l (open_end high), opens_one from))
  line-from l (x ∷ xs) state from =
      let ends : Bool = ends_group x xs in
      let state' : State = flipped x.shape state in
      let here : Edge = edge_at shape l x.at in
      let from' : Option Edge = opened ends (solid state') from here in
      let done : List Wall = closed ends (solid state') from l here in
      rw (walls_on_cons solid shape l state from x xs)
      (omega (arith, one_more ends (solid state') from l here, line-from l xs state' from', length-append done (walls_on solid shape l state' from' xs)))

  line-room : (l : ℕ) (xs : List Crossing) → 2 * length (walls_of solid start shape l xs) ≤ length xs + 2
  line-room l xs =
      let from : Option Edge = opened true (solid (start l)) none (open_end low) in
      omega (arith, line-from l xs (start l) from, opens_one from)

  lines-room : (k l : ℕ) (xs : List Crossing) → Sorted xs → OnFrom l xs → 2 * length (lines_by solid start shape k l xs) ≤ length xs + 2 * k
  lines-room zero l xs so from = rw (by_none solid start shape l xs) (omega arith)
  lines-room (suc k) l xs so from =
      let on : List Crossing = crossings_on l xs in
      rw (by_more solid start shape k l xs, by_past solid start shape k l xs)
      (omega (
        arith,
        length-append (walls_of solid start shape l on) (lines_by solid start shape k (suc l) (past l xs)),
        line-room l on,
        lines-room k (suc l) (past l xs) (past_sorted l xs so) (past-from l xs from),
        ap length (split_line l xs so from),
        length-append on (past l xs),
      ))

-- Half the crossings, rounded down, and one more for each row: the room that an answer list has.
pub walls-room : (f : Formula) (names : ℕ) (c : LineLists) → judged names c ≡ given tt → length (walls f names c) ≤ length c.lines / 2 + row_count names c.rows
walls-room f names c e =
    let start : ℕ → State = start_state names c.rows in
    let rows : ℕ = row_count names c.rows in
    let xs : List Crossing = entries c in
    let long : length xs ≡ length c.lines = length-crossings c.lines c.positions c.shapes (judged_positions names c e) (judged_shapes names c e) in
    let half = lines-room (inside f) start (shape_at start xs) rows 0 xs (judged_in_order names c e).sorted (all_from xs) in
    rw (from_by (inside f) start xs rows 0) (omega (arith, half, long))

-- so there is room for the walls found so far at every point of a pass
pub done-room : (f : Formula) (names : ℕ) (c : LineLists) (done rest : List Wall) → judged names c ≡ given tt → walls f names c ≡ done ++ rest → length done ≤ length c.lines / 2 + row_count names c.rows
done-room f names c done rest e is = omega (arith, walls-room f names c e, ap length is, length-append done rest)
