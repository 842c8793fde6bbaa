-- The lines as columns, one after another: what the passes go through. A column is a line's start, if a shape is inside there, or a crossing.
use Rattle.std.specs.Prelude.{ℕ, zero, suc, ◌+◌, Bool, true, false, not, ◌||◌, cond, List, [], ◌∷◌, ◌++◌, ltb, eqb, ℤ, length}
use Rattle.std.proofs.Math.Option.{Option, none}
use Rattle.std.specs.Int.Signed.{lt_z}
use Rattle.formula.specs.States.{State, outside}
use Rattle.lines.specs.Lines.{LineLists, Crossing, entries, row_count, start_state, low, high, shape_at, Wall, Edge, open_end, opened, closed}

-- The shapes that flip there, and the shape of a wall that begins or ends there.
pub record Column : Type 0 where
  pub line : ℕ
  pub at : ℤ
  pub flips : State
  pub shape : ℕ

-- One shape alone.
abbrev pub only : ℕ → State
only s t = eqb t s

-- The states after some shapes have flipped.
abbrev pub flipped_by : State → State → State
flipped_by flips state s = cond (flips s) (not (state s)) (state s)

abbrev pub start_column : (ℕ → State) → ℕ → Column
start_column start l = record { line = l; at = low; flips = start l; shape = 65535 }

abbrev pub crossing_column : (ℕ → ℤ → ℕ) → Crossing → Column
crossing_column shape x = record { line = x.line; at = x.at; flips = only x.shape; shape = shape x.line x.at }

-- Some shape below n is inside.
unfoldable pub any_inside : ℕ → State → Bool
any_inside zero state = false
any_inside (suc n) state = state n || any_inside n state

-- Of k lines from line l on, those with a shape inside at their start.
unfoldable pub starts_from : ℕ → (ℕ → State) → ℕ → ℕ → List ℕ
starts_from names start zero l = []
starts_from names start (suc k) l = elim (any_inside names (start l)) [ true ↦ l ∷ starts_from names start k (suc l) | false ↦ starts_from names start k (suc l) ]

-- The columns of such lines and of crossings, n of them at most: a line's start before its crossings.
unfoldable pub columns_from : (ℕ → State) → (ℕ → ℤ → ℕ) → ℕ → List ℕ → List Crossing → List Column
columns_from start shape zero qs xs = []
columns_from start shape (suc n) [] [] = []
columns_from start shape (suc n) [] (x ∷ xs) = crossing_column shape x ∷ columns_from start shape n [] xs
columns_from start shape (suc n) (q ∷ qs) [] = start_column start q ∷ columns_from start shape n qs []
columns_from start shape (suc n) (q ∷ qs) (x ∷ xs) = elim (ltb x.line q) [
  | true ↦ crossing_column shape x ∷ columns_from start shape n (q ∷ qs) xs
  | false ↦ start_column start q ∷ columns_from start shape n qs (x ∷ xs)
]

-- All columns of such lines and crossings.
abbrev pub columns_of : (ℕ → State) → (ℕ → ℤ → ℕ) → List ℕ → List Crossing → List Column
columns_of start shape qs xs = columns_from start shape (length qs + length xs) qs xs

abbrev pub all_columns : ℕ → LineLists → List Column
all_columns names c = columns_of (start_state names c.rows) (shape_at (start_state names c.rows) (entries c)) (starts_from names (start_state names c.rows) (row_count names c.rows) 0) (entries c)

-- The last column of its line.
abbrev pub last_column : Column → List Column → Bool
last_column x [] = true
last_column x (y ∷ ys) = not (eqb y.line x.line)

-- All that stands at its position has acted.
abbrev pub ends_columns : Column → List Column → Bool
ends_columns x [] = true
ends_columns x (y ∷ ys) = not (eqb y.line x.line) || lt_z x.at y.at

-- The walls of columns, with the states and the open wall of the line that goes on. After a line's last column all is outside, and what was open is an open wall.
unfoldable pub column_walls : (State → Bool) → State → Option Edge → List Column → List Wall
column_walls solid state from [] = []
column_walls solid state from (x ∷ xs) =
    let state' : State = flipped_by x.flips state in
    let ends : Bool = ends_columns x xs in
    let metal : Bool = solid state' in
    let here : Edge = record { at = x.at; shape = x.shape } in
    let from' : Option Edge = opened ends metal from here in
    closed ends metal from x.line here ++ elim (last_column x xs) [
      | true ↦ closed true false from' x.line (open_end high) ++ column_walls solid outside none xs
      | false ↦ column_walls solid state' from' xs
    ]
