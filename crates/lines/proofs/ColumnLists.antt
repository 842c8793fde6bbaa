-- The columns of lines: a line's start, if a shape is inside there, its crossings, then the columns of the lines after it.
use Prim.Native.Nat.{ℕ, zero, suc, ◌+◌, ◌<◌, ◌≤◌}
use native.Mathlib.Omega.{arith}
use mathlib.Core.Path.{◌≡◌, refl, ap, ◌∙◌}
use mathlib.Core.Bool.{Bool, true, false}
use mathlib.Core.List.{List, [], ◌∷◌, ◌++◌, map}
use borrow.Author.Tests.{ne_eqb, le-ltb, lt-ltb}
use lib.Dec.{ltb, eqb}
use lib.IntN.{ℤ}
use lib.ListN.{length, length-append}
use Rattle.formula.specs.States.{State}
use Rattle.lines.specs.Lines.{Crossing, crossings_on}
use Rattle.lines.specs.Columns.{Column, start_column, crossing_column, any_inside, starts_from, columns_from, columns_of}
use Rattle.lines.proofs.Crossings.{Each, Sorted, each_its_line}
use Rattle.lines.proofs.OtherLines.{past, OnFrom, split_line}

-- the lines with a start are after line l
abbrev pub Beyond : ℕ → List ℕ → Type 0
Beyond l [] = Unit {0}
Beyond l (q ∷ qs) = l < q

-- what follows is of another line
abbrev pub Leaves : ℕ → List Column → Type 0
Leaves l [] = Unit {0}
Leaves l (y ∷ ys) = eqb y.line l ≡ false

module _ (names : ℕ) (start : ℕ → State) where
  pub starts_in : (k l : ℕ) → any_inside names (start l) ≡ true → starts_from names start (suc k) l ≡ l ∷ starts_from names start k (suc l)
  unfolding starts_from
  starts_in k l e = rw (e, starts_from)

  pub starts_out : (k l : ℕ) → any_inside names (start l) ≡ false → starts_from names start (suc k) l ≡ starts_from names start k (suc l)
  unfolding starts_from
  starts_out k l e = rw (e, starts_from)

  pub starts-beyond : (k l m : ℕ) → l < m → Beyond l (starts_from names start k m)
  unfolding starts_from
  starts-beyond zero l m h = tt
  starts-beyond (suc k) l m h = by (any_inside names (start m)) refl (starts-beyond k l (suc m) (omega arith))
    where
      by : (b : Bool) → any_inside names (start m) ≡ b → Beyond l (starts_from names start k (suc m)) → Beyond l (starts_from names start (suc k) m)
      by true e ih = rw (starts_in k m e) h
      by false e ih = rw (starts_out k m e) ih

module _ (start : ℕ → State) (shape : ℕ → ℤ → ℕ) where
  pub columns_nil : columns_of start shape [] [] ≡ []
  unfolding columns_from
  columns_nil = refl

  start_first : (n q : ℕ) (qs : List ℕ) (xs : List Crossing) → OnFrom q xs → columns_from start shape (suc n) (q ∷ qs) xs ≡ start_column start q ∷ columns_from start shape n qs xs
  unfolding columns_from
  start_first n q qs [] h = refl
  start_first n q qs (x ∷ xs) h = rw (le-ltb x.line q h.0, columns_from)

  length_from : (n : ℕ) (qs : List ℕ) (xs : List Crossing) → n ≤ length qs + length xs → length (columns_from start shape n qs xs) ≡ n
  unfolding columns_from
  length_from zero qs xs h = refl
  length_from (suc n) [] [] h = let z : ⊥ = omega arith in absurd z
  length_from (suc n) [] (x ∷ xs) h = ap suc (length_from n [] xs (omega arith))
  length_from (suc n) (q ∷ qs) [] h = ap suc (length_from n qs [] (omega arith))
  length_from (suc n) (q ∷ qs) (x ∷ xs) h = by (ltb x.line q) refl (length_from n (q ∷ qs) xs (omega arith)) (length_from n qs (x ∷ xs) (omega arith))
    where
      by : (t : Bool) → ltb x.line q ≡ t → length (columns_from start shape n (q ∷ qs) xs) ≡ n → length (columns_from start shape n qs (x ∷ xs)) ≡ n
          → length (columns_from start shape (suc n) (q ∷ qs) (x ∷ xs)) ≡ suc n
      by true e ih jh = rw (e, columns_from) (ap suc ih)
      by false e ih jh = rw (e, columns_from) (ap suc jh)

  pub columns-length : (qs : List ℕ) (xs : List Crossing) → length (columns_of start shape qs xs) ≡ length qs + length xs
  columns-length qs xs = length_from (length qs + length xs) qs xs (omega arith)

  -- a line's start before its crossings
  pub columns-start : (q : ℕ) (qs : List ℕ) (xs : List Crossing) → OnFrom q xs → columns_of start shape (q ∷ qs) xs ≡ start_column start q ∷ columns_of start shape qs xs
  columns-start q qs xs h =
      let fuel : suc (length qs) + length xs ≡ suc (length qs + length xs) = omega arith in
      ap (λ n. columns_from start shape n (q ∷ qs) xs) fuel ∙ start_first (length qs + length xs) q qs xs h

  crossing_first : (n l : ℕ) (qs : List ℕ) (x : Crossing) (xs : List Crossing) → Beyond l qs → x.line ≡ l
      → columns_from start shape (suc n) qs (x ∷ xs) ≡ crossing_column shape x ∷ columns_from start shape n qs xs
  unfolding columns_from
  crossing_first n l [] x xs b e = refl
  crossing_first n l (q ∷ qs) x xs b e = rw (lt-ltb x.line q (omega (arith, e)), columns_from)

  line_first : (n m l : ℕ) (qs : List ℕ) (xs rest : List Crossing) → Beyond l qs → Each (λ x. x.line ≡ l) xs → n ≡ length xs + m
      → columns_from start shape n qs (xs ++ rest) ≡ map (crossing_column shape) xs ++ columns_from start shape m qs rest
  line_first n m l qs [] rest b h e = let z : n ≡ m = omega arith in rw z
  line_first zero m l qs (x ∷ xs) rest b h e = let z : ⊥ = omega arith in absurd z
  line_first (suc n) m l qs (x ∷ xs) rest b h e = crossing_first n l qs x (xs ++ rest) b h.0 ∙ ap (λ cs. crossing_column shape x ∷ cs) (line_first n m l qs xs rest b h.1 (omega arith))

  -- the crossings of line l, then the columns of the lines after it
  pub columns-line : (l : ℕ) (qs : List ℕ) (xs : List Crossing) → Beyond l qs → Sorted xs → OnFrom l xs
      → columns_of start shape qs xs ≡ map (crossing_column shape) (crossings_on l xs) ++ columns_of start shape qs (past l xs)
  columns-line l qs xs b so h =
      let on : List Crossing = crossings_on l xs in
      let rest : List Crossing = past l xs in
      let same : xs ≡ on ++ rest = split_line l xs so h in
      let fuel : length qs + length xs ≡ length on + (length qs + length rest) = omega (arith, ap length same, length-append on rest) in
      ap (columns_from start shape (length qs + length xs) qs) same ∙ line_first (length qs + length xs) (length qs + length rest) l qs on rest b (each_its_line l xs) fuel

  pub columns_leave : (n l : ℕ) (qs : List ℕ) (xs : List Crossing) → Beyond l qs → OnFrom (suc l) xs → Leaves l (columns_from start shape n qs xs)
  unfolding columns_from
  columns_leave zero l qs xs b h = tt
  columns_leave (suc n) l [] [] b h = tt
  columns_leave (suc n) l [] (x ∷ xs) b h = ne_eqb x.line l (omega (arith, h.0))
  columns_leave (suc n) l (q ∷ qs) [] b h = ne_eqb q l (omega arith)
  columns_leave (suc n) l (q ∷ qs) (x ∷ xs) b h = by (ltb x.line q) refl
    where
      by : (t : Bool) → ltb x.line q ≡ t → Leaves l (columns_from start shape (suc n) (q ∷ qs) (x ∷ xs))
      by true e = rw (e, columns_from) (ne_eqb x.line l (omega (arith, h.0)))
      by false e = rw (e, columns_from) (ne_eqb q l (omega arith))
