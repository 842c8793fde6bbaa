-- Rising entries, line by line: the crossings of the first line, then those past it.
use Prim.Native.Nat.{ℕ, suc, ◌<◌, ◌≤◌}
use native.Mathlib.Omega.{arith}
use mathlib.Core.Path.{◌≡◌, refl, sym, ap, ◌∙◌}
use mathlib.Core.Bool.{Bool, true, false}
use mathlib.Core.List.{List, [], ◌∷◌, ◌++◌}
use borrow.Author.Tests.{eqb-true, eqb-false, ne_eqb}
use Rattle.lines.specs.Lines.{Crossing, on_line, crossings_on}
use Rattle.lines.proofs.Crossings.{on_nil, on_in, on_out, Each, each_map, Later, Follows, Sorted, all-later, later-line}

-- those that are not on line l
unfoldable pub past : ℕ → List Crossing → List Crossing
past l [] = []
past l (x ∷ xs) = elim (on_line l x) [ true ↦ past l xs | false ↦ x ∷ past l xs ]

past_nil : (l : ℕ) → past l [] ≡ []
unfolding past
past_nil l = refl

past_in_lem : (l : ℕ) (x : Crossing) (xs : List Crossing) → on_line l x ≡ true → past l (x ∷ xs) ≡ past l xs
unfolding past
past_in_lem l x xs e = rw (e, past)

past_out : (l : ℕ) (x : Crossing) (xs : List Crossing) → on_line l x ≡ false → past l (x ∷ xs) ≡ x ∷ past l xs
unfolding past
past_out l x xs e = rw (e, past)

pub each_past : (P : Crossing → Type 0) (l : ℕ) (xs : List Crossing) → Each P xs → Each P (past l xs)
each_past P l [] h = rw (past_nil l) tt
each_past P l (x ∷ xs) h = by (on_line l x) refl (each_past P l xs h.1)
  where
    by : (a : Bool) → on_line l x ≡ a → Each P (past l xs) → Each P (past l (x ∷ xs))
    by true a ih = rw (past_in_lem l x xs a) ih
    by false a ih = rw (past_out l x xs a) (h.0, ih)

-- from line l on
abbrev pub OnFrom : ℕ → List Crossing → Type 0
OnFrom l xs = Each (λ x. l ≤ x.line) xs

pub past-from : (l : ℕ) (xs : List Crossing) → OnFrom l xs → OnFrom (suc l) (past l xs)
past-from l [] h = rw (past_nil l) tt
past-from l (x ∷ xs) h = by (on_line l x) refl (past-from l xs h.1)
  where
    by : (a : Bool) → on_line l x ≡ a → OnFrom (suc l) (past l xs) → OnFrom (suc l) (past l (x ∷ xs))
    by true a ih = rw (past_in_lem l x xs a) ih
    by false a ih = rw (past_out l x xs a) (omega (arith, h.0, eqb-false x.line l a), ih)

pub past_sorted : (l : ℕ) (xs : List Crossing) → Sorted xs → Sorted (past l xs)
past_sorted l [] so = rw (past_nil l) tt
past_sorted l (x ∷ xs) so = by (on_line l x) refl (past_sorted l xs so.1)
  where
    head : (ys : List Crossing) → Each (Later x) ys → Follows x ys
    head [] h = tt
    head (y ∷ ys) h = h.0

    by : (a : Bool) → on_line l x ≡ a → Sorted (past l xs) → Sorted (past l (x ∷ xs))
    by true a ih = rw (past_in_lem l x xs a) ih
    by false a ih = rw (past_out l x xs a) (head (past l xs) (each_past (Later x) l xs (all-later x xs so.0 so.1)), ih)

-- the other lines keep theirs
pub on-past : (l m : ℕ) (xs : List Crossing) → l < m → crossings_on m (past l xs) ≡ crossings_on m xs
on-past l m [] h = rw (past_nil l)
on-past l m (x ∷ xs) h = by (on_line l x) refl (on_line m x) refl (on-past l m xs h)
  where
    by : (a : Bool) → on_line l x ≡ a → (b : Bool) → on_line m x ≡ b → crossings_on m (past l xs) ≡ crossings_on m xs → crossings_on m (past l (x ∷ xs)) ≡ crossings_on m (x ∷ xs)
    by true a b c ih = rw (past_in_lem l x xs a, on_out m x xs (ne_eqb x.line m (omega (arith, eqb-true x.line l a)))) ih
    by false a true c ih = rw (past_out l x xs a, on_in m x (past l xs) c, on_in m x xs c, ih)
    by false a false c ih = rw (past_out l x xs a, on_out m x (past l xs) c, on_out m x xs c, ih)

-- where all are on later lines, none is on line l
none-on : (l : ℕ) (xs : List Crossing) → OnFrom (suc l) xs → crossings_on l xs ≡ []
none-on l [] h = on_nil l
none-on l (x ∷ xs) h = on_out l x xs (ne_eqb x.line l (omega (arith, h.0))) ∙ none-on l xs h.1

none-past : (l : ℕ) (xs : List Crossing) → OnFrom (suc l) xs → past l xs ≡ xs
none-past l [] h = past_nil l
none-past l (x ∷ xs) h = past_out l x xs (ne_eqb x.line l (omega (arith, h.0))) ∙ ap (λ ys. x ∷ ys) (none-past l xs h.1)

pub split_line : (l : ℕ) (xs : List Crossing) → Sorted xs → OnFrom l xs → xs ≡ crossings_on l xs ++ past l xs
split_line l [] so h = rw (on_nil l, past_nil l)
split_line l (x ∷ xs) so h = by (on_line l x) refl (split_line l xs so.1 h.1)
  where
    by : (a : Bool) → on_line l x ≡ a → xs ≡ crossings_on l xs ++ past l xs → x ∷ xs ≡ crossings_on l (x ∷ xs) ++ past l (x ∷ xs)
    by true a ih = ap (λ ys. x ∷ ys) ih ∙ sym (rw (on_in l x xs a, past_in_lem l x xs a))
    by false a ih =
        let k : suc l ≤ x.line = omega (arith, h.0, eqb-false x.line l a) in
        let all : OnFrom (suc l) (x ∷ xs) = (k, each_map (Later x) (λ y. suc l ≤ y.line) (λ y g. omega (arith, later-line x y g)) xs (all-later x xs so.0 so.1)) in
        sym (rw (none-on l (x ∷ xs) all, none-past l (x ∷ xs) all))
