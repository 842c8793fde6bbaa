-- The walls of columns, block by block: those that a block finishes, then those of the columns after it with the states and the open wall that it leaves.
use Prim.Native.Nat.{ℕ, zero, suc, ◌+◌, ◌<◌, ◌≤◌}
use native.Mathlib.Omega.{arith}
use mathlib.Core.Path.{◌≡◌, refl, sym, ap, ◌∙◌}
use mathlib.Core.Bool.{Bool, true, false}
use mathlib.Core.List.{List, [], ◌∷◌, ◌++◌, append_assoc, append-nil}
use mathlib.Core.Option.{Option, none}
use lib.ListN.{length, drop, length-drop}
use lib.Seq.{drop-drop}
use Rattle.formula.specs.States.{State, outside}
use Rattle.lines.specs.Lines.{high, Wall, Edge, open_end, opened, closed}
use Rattle.lines.specs.Columns.{Column, flipped_by, last_column, ends_columns, column_walls}
use Rattle.lines.specs.Views.{View, view_of, view_at, column_edge, state_next, next_open, finished, state_after, open_after, walls_after, metal_at}
use Rattle.lines.proofs.ColumnLines.{column_last, column_on}

-- ---- one column

column_step : (solid : State → Bool) (state : State) (from : Option Edge) (x : Column) (xs : List Column)
    → column_walls solid state from (x ∷ xs)
    ≡ finished (solid (flipped_by x.flips state)) from (view_of (x ∷ xs)) ++ column_walls solid (state_next state (view_of (x ∷ xs))) (next_open (solid (flipped_by x.flips state)) from (view_of (x ∷ xs))) xs
column_step solid state from x xs = by (last_column x xs) refl
  where
    metal : Bool
    metal = solid (flipped_by x.flips state)

    ended : List Wall
    ended = closed (ends_columns x xs) metal from x.line (column_edge x)

    left : List Wall
    left = closed true false (opened (ends_columns x xs) metal from (column_edge x)) x.line (open_end high)

    by : (b : Bool) → last_column x xs ≡ b
        → column_walls solid state from (x ∷ xs) ≡ finished metal from (view_of (x ∷ xs)) ++ column_walls solid (state_next state (view_of (x ∷ xs))) (next_open metal from (view_of (x ∷ xs))) xs
    by true e = column_last solid state from x xs e ∙ rw e (sym (append_assoc ended left (column_walls solid outside none xs)))
    by false e = column_on solid state from x xs e ∙ rw (e, append-nil ended)

-- ---- a block

module _ (at : ℕ → View) (state : State) where
  pub state_zero : state_after at state 0 ≡ state
  unfolding state_after
  state_zero = refl

  pub state_more : (n : ℕ) → state_after at state (suc n) ≡ state_next (state_after at state n) (at n)
  unfolding state_after
  state_more n = refl

module _ (at : ℕ → View) (metal : ℕ → Bool) (from : Option Edge) where
  pub open_zero : open_after at metal from 0 ≡ from
  unfolding open_after
  open_zero = refl

  pub open_more : (n : ℕ) → open_after at metal from (suc n) ≡ next_open (metal n) (open_after at metal from n) (at n)
  unfolding open_after
  open_more n = refl

  pub walls_zero : walls_after at metal from 0 ≡ []
  unfolding walls_after
  walls_zero = refl

  pub walls_more : (n : ℕ) → walls_after at metal from (suc n) ≡ walls_after at metal from n ++ finished (metal n) (open_after at metal from n) (at n)
  unfolding walls_after
  walls_more n = refl

-- the walls of the columns that are left, of which the first n are a block
module _ (solid : State → Bool) (state : State) (from : Option Edge) (xs : List Column) (at : ℕ → View) (metal : ℕ → Bool) where
  pub block-walls : (n : ℕ) → n ≤ length xs → ((j : ℕ) → j < n → at j ≡ view_at xs j) → ((j : ℕ) → j < n → metal j ≡ metal_at solid at state j)
      → column_walls solid state from xs ≡ walls_after at metal from n ++ column_walls solid (state_after at state n) (open_after at metal from n) (drop n xs)
  block-walls zero h are is = rw (walls_zero at metal from, state_zero at state, open_zero at metal from)
  block-walls (suc n) h are is = block-walls n (omega arith) (λ j k. are j (omega arith)) (λ j k. is j (omega arith)) ∙ step (drop n xs) refl
    where
      done : List Wall
      done = walls_after at metal from n

      st : State
      st = state_after at state n

      op : Option Edge
      op = open_after at metal from n

      -- once column n has acted, with m for it and b for its metal
      beyond : View → Bool → List Wall
      beyond m b = (done ++ finished b op m) ++ column_walls solid (state_next st m) (next_open b op m) (drop (suc n) xs)

      step : (ys : List Column) → drop n xs ≡ ys
          → done ++ column_walls solid st op (drop n xs) ≡ walls_after at metal from (suc n) ++ column_walls solid (state_after at state (suc n)) (open_after at metal from (suc n)) (drop (suc n) xs)
      step [] e = let z : ⊥ = omega (arith, ap length e, length-drop n xs) in absurd z
      step (y ∷ ys) e =
          let m : View = view_of (y ∷ ys) in
          let b : Bool = solid (flipped_by y.flips st) in
          let here : m ≡ at n = sym (are n (omega arith) ∙ ap view_of e) in
          let lit : b ≡ metal n = ap (λ (k : View). solid (flipped_by k.column.flips st)) here ∙ sym (is n (omega arith)) in
          let one_on : n + 1 ≡ suc n = omega arith in
          let rest : ys ≡ drop (suc n) xs = sym (ap (λ (k : ℕ). drop k xs) (sym one_on) ∙ sym (drop-drop 1 n xs) ∙ ap (drop 1) e) in
          ap (λ (zs : List Column). done ++ column_walls solid st op zs) e
          ∙ ap (λ (ws : List Wall). done ++ ws) (column_step solid st op y ys)
          ∙ sym (append_assoc done (finished b op m) (column_walls solid (state_next st m) (next_open b op m) ys))
          ∙ ap (λ (zs : List Column). (done ++ finished b op m) ++ column_walls solid (state_next st m) (next_open b op m) zs) rest
          ∙ ap (λ (k : View). beyond k b) here
          ∙ ap (beyond (at n)) lit
          ∙ sym (rw (walls_more at metal from n, state_more at state n, open_more at metal from n))
