-- The first column of some starts and crossings, and what looking ahead tells of one before it.
use Prim.Native.Nat.{ℕ, suc, ◌+◌, ◌≤◌}
use native.Mathlib.Omega.{arith}
use mathlib.Core.Path.{◌≡◌, refl, ap, ◌∙◌}
use mathlib.Core.Bool.{Bool, true, false, not, ◌||◌}
use mathlib.Core.List.{List, [], ◌∷◌}
use borrow.Author.Tests.{ltb-true, ltb-false, ne_eqb, le-ltb, lt-ltb}
use lib.Dec.{ltb, eqb}
use lib.IntN.{ℤ}
use lib.ListN.{length}
use lib.Signed.{lt_z}
use Rattle.formula.specs.States.{State}
use Rattle.lines.specs.Lines.{Crossing}
use Rattle.lines.specs.Columns.{Column, start_column, crossing_column, columns_from, columns_of, last_column, ends_columns}
use Rattle.lines.proofs.ColumnLists.{Beyond}

-- the next crossing is on line l no more; or there is none
abbrev pub LineOver : ℕ → List Crossing → Bool
LineOver l [] = true
LineOver l (x ∷ xs) = not (eqb x.line l)

-- nor at position p of it
abbrev pub GroupOver : ℕ → ℤ → List Crossing → Bool
GroupOver l p [] = true
GroupOver l p (x ∷ xs) = not (eqb x.line l) || lt_z p x.at

-- the next crossing is not before line q; or there is none
abbrev pub NotBefore : ℕ → List Crossing → Type 0
NotBefore q [] = Unit {0}
NotBefore q (x ∷ xs) = q ≤ x.line

module _ (start : ℕ → State) (shape : ℕ → ℤ → ℕ) where
  from_crossing : (n : ℕ) (qs : List ℕ) (x : Crossing) (xs : List Crossing) → Beyond x.line qs → columns_from start shape (suc n) qs (x ∷ xs) ≡ crossing_column shape x ∷ columns_from start shape n qs xs
  unfolding columns_from
  from_crossing n [] x xs b = refl
  from_crossing n (q ∷ qs) x xs b = rw (lt-ltb x.line q b, columns_from)

  pub head_crossing : (qs : List ℕ) (x : Crossing) (xs : List Crossing) → Beyond x.line qs → columns_of start shape qs (x ∷ xs) ≡ crossing_column shape x ∷ columns_of start shape qs xs
  head_crossing qs x xs b =
      let fuel : length qs + suc (length xs) ≡ suc (length qs + length xs) = omega arith in
      ap (λ n. columns_from start shape n qs (x ∷ xs)) fuel ∙ from_crossing (length qs + length xs) qs x xs b

  from_start : (n q : ℕ) (qs : List ℕ) (xs : List Crossing) → NotBefore q xs → columns_from start shape (suc n) (q ∷ qs) xs ≡ start_column start q ∷ columns_from start shape n qs xs
  unfolding columns_from
  from_start n q qs [] h = refl
  from_start n q qs (x ∷ xs) h = rw (le-ltb x.line q h, columns_from)

  pub head_start : (q : ℕ) (qs : List ℕ) (xs : List Crossing) → NotBefore q xs → columns_of start shape (q ∷ qs) xs ≡ start_column start q ∷ columns_of start shape qs xs
  head_start q qs xs h =
      let fuel : suc (length qs) + length xs ≡ suc (length qs + length xs) = omega arith in
      ap (λ n. columns_from start shape n (q ∷ qs) xs) fuel ∙ from_start (length qs + length xs) q qs xs h

  pub head_none : columns_of start shape [] [] ≡ []
  unfolding columns_from
  head_none = refl

  -- after a column of line l, where the starts left are beyond l: the crossings alone decide
  module _ (l : ℕ) (x : Column) (of : x.line ≡ l) where
    pub last-ahead : (qs : List ℕ) (xs : List Crossing) → Beyond l qs → last_column x (columns_of start shape qs xs) ≡ LineOver l xs
    last-ahead [] [] b = rw head_none
    last-ahead [] (y ∷ ys) b = rw (head_crossing [] y ys tt, of)
    last-ahead (q ∷ qs) [] b = rw (head_start q qs [] tt, of, ne_eqb q l (omega arith))
    last-ahead (q ∷ qs) (y ∷ ys) b = by (ltb y.line q) refl
      where
        by : (t : Bool) → ltb y.line q ≡ t → last_column x (columns_of start shape (q ∷ qs) (y ∷ ys)) ≡ LineOver l (y ∷ ys)
        by true e = rw (head_crossing (q ∷ qs) y ys (ltb-true y.line q e), of)
        by false e = let far : q ≤ y.line = ltb-false y.line q e in rw (head_start q qs (y ∷ ys) far, of, ne_eqb q l (omega arith), ne_eqb y.line l (omega arith))

    pub ends-ahead : (qs : List ℕ) (xs : List Crossing) → Beyond l qs → ends_columns x (columns_of start shape qs xs) ≡ GroupOver l x.at xs
    ends-ahead [] [] b = rw head_none
    ends-ahead [] (y ∷ ys) b = rw (head_crossing [] y ys tt, of)
    ends-ahead (q ∷ qs) [] b = rw (head_start q qs [] tt, of, ne_eqb q l (omega arith))
    ends-ahead (q ∷ qs) (y ∷ ys) b = by (ltb y.line q) refl
      where
        by : (t : Bool) → ltb y.line q ≡ t → ends_columns x (columns_of start shape (q ∷ qs) (y ∷ ys)) ≡ GroupOver l x.at (y ∷ ys)
        by true e = rw (head_crossing (q ∷ qs) y ys (ltb-true y.line q e), of)
        by false e = let far : q ≤ y.line = ltb-false y.line q e in rw (head_start q qs (y ∷ ys) far, of, ne_eqb q l (omega arith), ne_eqb y.line l (omega arith))
