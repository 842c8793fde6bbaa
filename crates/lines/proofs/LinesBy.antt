-- The walls of all lines by any shape at a position: line after line, each from its own crossings.
use Prim.Native.Nat.{ℕ, zero, suc, ◌≤◌}
use native.Mathlib.Omega.{arith}
use mathlib.Core.Path.{◌≡◌, refl, sym, ap, ◌∙◌}
use mathlib.Core.Bool.{Bool, true, false}
use mathlib.Core.List.{List, [], ◌∷◌, ◌++◌}
use mathlib.Core.Option.{Option, none}
use lib.IntN.{ℤ}
use Rattle.formula.specs.States.{State, flipped}
use Rattle.lines.specs.Lines.{Crossing, low, high, shape_at, Wall, Edge, edge_at, open_end, ends_group, opened, closed, walls_on, crossings_on, walls_from}
use Rattle.lines.proofs.OtherLines.{past, on-past}

-- ---- one line, one crossing after another

pub walls_on_nil : (solid : State → Bool) (shape : ℕ → ℤ → ℕ) (l : ℕ) (state : State) (from : Option Edge) → walls_on solid shape l state from [] ≡ closed true false from l (open_end high)
unfolding walls_on
walls_on_nil solid shape l state from = refl

pub walls_on_cons : (solid : State → Bool) (shape : ℕ → ℤ → ℕ) (l : ℕ) (state : State) (from : Option Edge) (x : Crossing) (xs : List Crossing)
    → walls_on solid shape l state from (x ∷ xs)
    ≡ closed (ends_group x xs) (solid (flipped x.shape state)) from l (edge_at shape l x.at)
    ++ walls_on solid shape l (flipped x.shape state) (opened (ends_group x xs) (solid (flipped x.shape state)) from (edge_at shape l x.at)) xs
unfolding walls_on
walls_on_cons solid shape l state from x xs = refl

-- ---- line after line

module _ (solid : State → Bool) (start : ℕ → State) (shape : ℕ → ℤ → ℕ) where
  -- one line, from its crossings
  abbrev pub walls_of : ℕ → List Crossing → List Wall
  walls_of l xs = walls_on solid shape l (start l) (opened true (solid (start l)) none (open_end low)) xs

  unfoldable pub lines_by : ℕ → ℕ → List Crossing → List Wall
  lines_by zero l xs = []
  lines_by (suc k) l xs = walls_of l (crossings_on l xs) ++ lines_by k (suc l) xs

  pub by_none : (l : ℕ) (xs : List Crossing) → lines_by zero l xs ≡ []
  unfolding lines_by
  by_none l xs = refl

  pub by_more : (k l : ℕ) (xs : List Crossing) → lines_by (suc k) l xs ≡ walls_of l (crossings_on l xs) ++ lines_by k (suc l) xs
  unfolding lines_by
  by_more k l xs = refl

  -- lists with the same crossings on these lines
  by_same : (k l : ℕ) (xs ys : List Crossing) → ((m : ℕ) → l ≤ m → crossings_on m xs ≡ crossings_on m ys) → lines_by k l xs ≡ lines_by k l ys
  by_same zero l xs ys same = by_none l xs ∙ sym (by_none l ys)
  by_same (suc k) l xs ys same =
      let rest = by_same k (suc l) xs ys (λ m h. same m (omega arith)) in
      by_more k l xs ∙ (rw (same l (omega arith), rest) (sym (by_more k l ys)))

  pub by_past : (k l : ℕ) (xs : List Crossing) → lines_by k (suc l) xs ≡ lines_by k (suc l) (past l xs)
  by_past k l xs = by_same k (suc l) xs (past l xs) (λ m h. sym (on-past l m xs (omega arith)))

-- by the shape at each position
pub from_by : (solid : State → Bool) (start : ℕ → State) (xs : List Crossing) (k l : ℕ) → walls_from solid start xs k l ≡ lines_by solid start (shape_at start xs) k l xs
unfolding walls_from
from_by solid start xs zero l = sym (by_none solid start (shape_at start xs) l xs)
from_by solid start xs (suc k) l = ap (λ ws. walls_of solid start (shape_at start xs) l (crossings_on l xs) ++ ws) (from_by solid start xs k (suc l)) ∙ sym (by_more solid start (shape_at start xs) k l xs)
