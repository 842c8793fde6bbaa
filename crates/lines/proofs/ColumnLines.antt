-- The walls of a line's columns are the line's walls, and then those of the columns after them.
use Prim.Native.Nat.{ℕ}
use mathlib.Core.Path.{◌≡◌, refl, sym, ◌∙◌, fun_ext}
use mathlib.Core.Bool.{Bool, true, false, not, cond}
use mathlib.Core.List.{List, [], ◌∷◌, ◌++◌, map, append_assoc}
use mathlib.Core.Option.{Option, none}
use borrow.Author.Tests.{eq-eqb}
use lib.IntN.{ℤ}
use lib.Signed.{lt_z}
use Rattle.formula.specs.States.{State, outside, flipped}
use Rattle.lines.specs.Lines.{Crossing, low, high, Edge, edge_at, open_end, ends_group, opened, closed, walls_on}
use Rattle.lines.specs.Columns.{Column, flipped_by, start_column, crossing_column, last_column, ends_columns, column_walls}
use Rattle.lines.specs.Views.{column_edge}
use Rattle.lines.proofs.Crossings.{Each}
use Rattle.lines.proofs.LinesBy.{walls_on_nil, walls_on_cons}
use Rattle.lines.proofs.ColumnLists.{Leaves}

module _ (solid : State → Bool) where
  pub column_nil : (state : State) (from : Option Edge) → column_walls solid state from [] ≡ []
  unfolding column_walls
  column_nil state from = refl

  -- a line's last column, and one that its line goes on after
  pub column_last : (state : State) (from : Option Edge) (x : Column) (xs : List Column) → last_column x xs ≡ true
      → column_walls solid state from (x ∷ xs)
      ≡ closed (ends_columns x xs) (solid (flipped_by x.flips state)) from x.line (column_edge x)
      ++ (closed true false (opened (ends_columns x xs) (solid (flipped_by x.flips state)) from (column_edge x)) x.line (open_end high) ++ column_walls solid outside none xs)
  unfolding column_walls
  column_last state from x xs e = rw (e, column_walls)

  pub column_on : (state : State) (from : Option Edge) (x : Column) (xs : List Column) → last_column x xs ≡ false
      → column_walls solid state from (x ∷ xs)
      ≡ closed (ends_columns x xs) (solid (flipped_by x.flips state)) from x.line (column_edge x)
      ++ column_walls solid (flipped_by x.flips state) (opened (ends_columns x xs) (solid (flipped_by x.flips state)) from (column_edge x)) xs
  unfolding column_walls
  column_on state from x xs e = rw (e, column_walls)

leaves_last : (x : Column) (cs : List Column) → Leaves x.line cs → last_column x cs ≡ true
leaves_last x [] h = refl
leaves_last x (y ∷ ys) h = rw h

leaves-ends : (x : Column) (cs : List Column) → Leaves x.line cs → ends_columns x cs ≡ true
leaves-ends x [] h = refl
leaves-ends x (y ∷ ys) h = rw h

same-on : (x y : Column) (ys : List Column) → y.line ≡ x.line → last_column x (y ∷ ys) ≡ false
same-on x y ys e = rw (eq-eqb y.line x.line e)

same_ends : (x y : Column) (ys : List Column) → y.line ≡ x.line → ends_columns x (y ∷ ys) ≡ lt_z x.at y.at
same_ends x y ys e = rw (eq-eqb y.line x.line e)

flipped-outside : (flips : State) → flipped_by flips outside ≡ flips
flipped-outside flips = fun_ext (λ s. by (flips s))
  where
    by : (b : Bool) → cond b (not false) false ≡ b
    by true = refl
    by false = refl

closed_none : (ends metal : Bool) (l : ℕ) (here : Edge) → closed ends metal none l here ≡ []
closed_none false metal l here = refl
closed_none true true l here = refl
closed_none true false l here = refl

module _ (solid : State → Bool) (shape : ℕ → ℤ → ℕ) where
  abbrev columns : List Crossing → List Column
  columns xs = map (crossing_column shape) xs

  -- with the line's number as its first crossing has it
  line-from : (state : State) (from : Option Edge) (x : Crossing) (xs : List Crossing) (cs : List Column) → Each (λ y. y.line ≡ x.line) xs → Leaves x.line cs
      → column_walls solid state from (columns (x ∷ xs) ++ cs) ≡ walls_on solid shape x.line state from (x ∷ xs) ++ column_walls solid outside none cs
  line-from state from x [] cs h out =
      let l : ℕ = x.line in
      let here : Edge = edge_at shape l x.at in
      let metal : Bool = solid (flipped x.shape state) in
      column_last solid state from (crossing_column shape x) cs (leaves_last (crossing_column shape x) cs out)
      ∙ rw (leaves-ends (crossing_column shape x) cs out, walls_on_cons solid shape l state from x [], walls_on_nil solid shape l (flipped x.shape state) (opened true metal from here))
      (sym (append_assoc (closed true metal from l here) (closed true false (opened true metal from here) l (open_end high)) (column_walls solid outside none cs)))
  line-from state from x (y ∷ ys) cs h out =
      let l : ℕ = x.line in
      let here : Edge = edge_at shape l x.at in
      let ends : Bool = ends_group x (y ∷ ys) in
      let state' : State = flipped x.shape state in
      let from' : Option Edge = opened ends (solid state') from here in
      let rest : List Column = columns ys ++ cs in
      let others : Each (λ z. z.line ≡ y.line) ys = each_same ys h.1 in
      let ih : column_walls solid state' from' (columns (y ∷ ys) ++ cs) ≡ walls_on solid shape l state' from' (y ∷ ys) ++ column_walls solid outside none cs =
      line-from state' from' y ys cs others (rw h.0 out) ∙ rw h.0 in
      column_on solid state from (crossing_column shape x) (crossing_column shape y ∷ rest) (same-on (crossing_column shape x) (crossing_column shape y) rest h.0)
      ∙ rw (same_ends (crossing_column shape x) (crossing_column shape y) rest h.0, ih, walls_on_cons solid shape l state from x (y ∷ ys))
      (sym (append_assoc (closed ends (solid state') from l here) (walls_on solid shape l state' from' (y ∷ ys)) (column_walls solid outside none cs)))
    where
      each_same : (zs : List Crossing) → Each (λ z. z.line ≡ x.line) zs → Each (λ z. z.line ≡ y.line) zs
      each_same [] k = tt
      each_same (z ∷ zs) k = (k.0 ∙ sym h.0, each_same zs k.1)

  line-columns : (l : ℕ) (state : State) (from : Option Edge) (x : Crossing) (xs : List Crossing) (cs : List Column) → Each (λ y. y.line ≡ l) (x ∷ xs) → Leaves l cs
      → column_walls solid state from (columns (x ∷ xs) ++ cs) ≡ walls_on solid shape l state from (x ∷ xs) ++ column_walls solid outside none cs
  line-columns l state from x xs cs h out =
      line-from state from x xs cs (each_same xs h.1) (rw h.0 out) ∙ rw h.0
    where
      each_same : (zs : List Crossing) → Each (λ z. z.line ≡ l) zs → Each (λ z. z.line ≡ x.line) zs
      each_same [] k = tt
      each_same (z ∷ zs) k = (k.0 ∙ sym h.0, each_same zs k.1)

  -- a line that starts with every shape outside has no start column
  pub air_line : (l : ℕ) (xs : List Crossing) (cs : List Column) → Each (λ y. y.line ≡ l) xs → Leaves l cs
      → column_walls solid outside none (columns xs ++ cs) ≡ walls_on solid shape l outside none xs ++ column_walls solid outside none cs
  air_line l [] cs h out = rw (walls_on_nil solid shape l outside none)
  air_line l (x ∷ xs) cs h out = line-columns l outside none x xs cs h out

  pub start-line : (start : ℕ → State) (l : ℕ) (xs : List Crossing) (cs : List Column) → Each (λ y. y.line ≡ l) xs → Each (λ y. lt_z low y.at ≡ true) xs → Leaves l cs
      → column_walls solid outside none (start_column start l ∷ (columns xs ++ cs)) ≡ walls_on solid shape l (start l) (opened true (solid (start l)) none (open_end low)) xs ++ column_walls solid outside none cs
  start-line start l [] cs h up out =
      let from : Option Edge = opened true (solid (start l)) none (open_end low) in
      column_last solid outside none (start_column start l) cs (leaves_last (start_column start l) cs out)
      ∙ rw (leaves-ends (start_column start l) cs out, flipped-outside (start l), walls_on_nil solid shape l (start l) from, closed_none true (solid (start l)) l (open_end low))
  start-line start l (x ∷ xs) cs h up out =
      let from : Option Edge = opened true (solid (start l)) none (open_end low) in
      let rest : List Column = columns xs ++ cs in
      column_on solid outside none (start_column start l) (crossing_column shape x ∷ rest) (same-on (start_column start l) (crossing_column shape x) rest h.0)
      ∙ rw (same_ends (start_column start l) (crossing_column shape x) rest h.0, up.0, flipped-outside (start l), closed_none true (solid (start l)) l (open_end low))
      (line-columns l (start l) from x xs cs h out)
