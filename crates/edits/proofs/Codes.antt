-- An edit seen in the codes: operations stand where codes from 0xFFF0 on stand, and an edit puts its code there.
use Prim.Native.Nat.{ℕ, zero, suc, ◌+◌, ◌-◌, ◌<◌, ◌≤◌}
use native.Mathlib.Nat.{zero-add, suc-add}
use native.Mathlib.Omega.{arith}
use mathlib.Core.Path.{◌≡◌, refl, sym, ap, ap₂, ◌∙◌}
use mathlib.Core.Bool.{Bool, true, false}
use mathlib.Core.Logic.{◌⊎◌, inl, inr}
use mathlib.Core.List.{List, [], ◌∷◌, ◌++◌}
use lib.Dec.{eqb, ltb, leb}
use lib.ListN.{length, get_or, set, length-append, get_or-append, get_or-eq_default}
use lib.Seq.{get_or-append-add, get_or_at, set-append_left, set_at}
use borrow.Author.Tests.{ltb-true, ltb-false, eqb-true, eqb-false, eq-eqb, ne_eqb, le-leb, lt-leb}
use Rattle.formula.specs.Formula.{Op, code, first_operation, Formula, leaf, node, postfix, Over}
use Rattle.edits.specs.Edits.{size, remade, only, edited}
use Rattle.edits.specs.Changes.{operations}
use Rattle.edits.proofs.Single.{count}
use Rattle.edits.proofs.Edits.{none-remade}

pub length-postfix : (f : Formula) → length (postfix f) ≡ size f
length-postfix (leaf s) = refl
length-postfix (node o l r) =
    omega (arith, length-append (postfix l) (postfix r ++ (code o ∷ [])), length-append (postfix r) (code o ∷ []), length-postfix l, length-postfix r)

-- operations stand within the formula, and one at most at a position
below_none : (f : Formula) (p q : ℕ) → q < p → operations q p f ≡ 0
below_none (leaf s) p q h = refl
below_none (node o l r) p q h =
    omega (arith, ap count (ne_eqb q (p + (size l + size r)) (λ e. omega arith)), below_none l p q h, below_none r (p + size l) q (omega arith))

pub above_none : (f : Formula) (p q : ℕ) → p + size f ≤ q → operations q p f ≡ 0
above_none (leaf s) p q h = refl
above_none (node o l r) p q h =
    omega (arith, ap count (ne_eqb q (p + (size l + size r)) (λ e. omega arith)), above_none l p q (omega arith), above_none r (p + size l) q (omega arith))

-- where in a formula a position lies
data Where (a b i : ℕ) : Type 0 where
  in_left : i < a → Where a b i
  in_right : (j : ℕ) → i ≡ a + j → j < b → Where a b i
  at_own : i ≡ a + b → Where a b i
  beyond : a + b < i → Where a b i

where_is : (a b i : ℕ) → Where a b i
where_is a b i = go (ltb i a) refl (ltb i (a + b)) refl (eqb i (a + b)) refl
  where
    go : (x : Bool) → ltb i a ≡ x → (y : Bool) → ltb i (a + b) ≡ y → (z : Bool) → eqb i (a + b) ≡ z → Where a b i
    go true e y s z t = in_left (ltb-true i a e)
    go false e true s z t = in_right (i - a) (omega (arith, ltb-false i a e)) (omega (arith, ltb-false i a e, ltb-true i (a + b) s))
    go false e false s true t = at_own (eqb-true i (a + b) t)
    go false e false s false t = beyond (past (eqb-false i (a + b) t) (ltb-false i (a + b) s))
      where
        past : (i ≡ a + b → ⊥) → a + b ≤ i → a + b < i
        past n h = omega arith

-- The codes from 0xFFF0 on stand where the operations do.
pub operation-code : (f : Formula) → Over 256 f → (p i : ℕ) → operations (p + i) p f ≡ count (leb first_operation (get_or (postfix f) i 0))
operation-code (leaf s) v p zero = sym (ap count (lt-leb first_operation s (omega arith)))
operation-code (leaf s) v p (suc i) = refl
operation-code (node o l r) v p i = go (where_is (size l) (size r) i) (operation-code l v.0 p) (operation-code r v.1 (p + size l))
  where
    go : Where (size l) (size r) i → ((j : ℕ) → operations (p + j) p l ≡ count (leb first_operation (get_or (postfix l) j 0)))
        → ((j : ℕ) → operations (p + size l + j) (p + size l) r ≡ count (leb first_operation (get_or (postfix r) j 0)))
        → operations (p + i) p (node o l r) ≡ count (leb first_operation (get_or (postfix (node o l r)) i 0))
    go (in_left h) u w =
        omega (
          arith,
          ap count (ne_eqb (p + i) (p + (size l + size r)) (λ e. omega arith)),
          u i,
          below_none r (p + size l) (p + i) (omega arith),
          ap (λ c. count (leb first_operation c)) (get_or-append (postfix l) (postfix r ++ (code o ∷ [])) 0 i (omega (arith, length-postfix l))),
        )
    go (in_right j e h) u w =
        let q : p + i ≡ p + size l + j = omega arith in
        let c : get_or (postfix (node o l r)) i 0 ≡ get_or (postfix r) j 0 =
        ap (λ k. get_or (postfix (node o l r)) k 0) (e ∙ ap (λ n. n + j) (sym (length-postfix l)))
        ∙ get_or-append-add (postfix l) (postfix r ++ (code o ∷ [])) j 0 ∙ get_or-append (postfix r) (code o ∷ []) 0 j (omega (arith, length-postfix r)) in
        omega (
          arith,
          ap count (ne_eqb (p + i) (p + (size l + size r)) (λ z. omega arith)),
          above_none l p (p + i) (omega arith),
          ap (λ n. operations n (p + size l) r) q ∙ w j,
          ap (λ k. count (leb first_operation k)) c,
        )
    go (at_own e) u w =
        let c : get_or (postfix (node o l r)) i 0 ≡ code o =
        ap (λ k. get_or (postfix (node o l r)) k 0) (e ∙ ap₂ ◌+◌ (sym (length-postfix l)) (sym (length-postfix r)))
        ∙ get_or-append-add (postfix l) (postfix r ++ (code o ∷ [])) (length (postfix r)) 0 ∙ get_or_at (postfix r) (code o) [] 0 (length (postfix r)) refl in
        omega (
          arith,
          ap count (eq-eqb (p + i) (p + (size l + size r)) (omega arith)),
          above_none l p (p + i) (omega arith),
          above_none r (p + size l) (p + i) (omega arith),
          ap (λ k. count (leb first_operation k)) c,
          ap count (le-leb first_operation (code o) (omega arith)),
        )
    go (beyond h) u w =
        omega (
          arith,
          ap count (ne_eqb (p + i) (p + (size l + size r)) (λ z. omega arith)),
          above_none l p (p + i) (omega arith),
          above_none r (p + size l) (p + i) (omega arith),
          ap (λ k. count (leb first_operation k)) (get_or-eq_default (postfix (node o l r)) 0 {n = i} (omega (arith, length-postfix (node o l r)))),
        )

pub is_operation_lem : (f : Formula) → Over 256 f → (p : ℕ) → first_operation ≤ get_or (postfix f) p 0 → operations p 0 f ≡ 1
is_operation_lem f v p h = ap (λ q. operations q 0 f) (sym (zero-add p)) ∙ operation-code f v 0 p ∙ ap count (le-leb first_operation (get_or (postfix f) p 0) h)

-- An edit puts its code at its position, and leaves every other code as it is.
set_append_right : (xs ys : List ℕ) (i v : ℕ) → set (xs ++ ys) (length xs + i) v ≡ xs ++ set ys i v
set_append_right [] ys i v = ap (λ k. set ys k v) (zero-add i)
set_append_right (x ∷ xs) ys i v = ap (λ k. set (x ∷ (xs ++ ys)) k v) (suc-add (length xs) i) ∙ ap (λ q. x ∷ q) (set_append_right xs ys i v)

own-set : (xs ys : List ℕ) (c v : ℕ) → set (xs ++ (ys ++ (c ∷ []))) (length xs + length ys) v ≡ xs ++ (ys ++ (v ∷ []))
own-set xs ys c v = set_append_right xs (ys ++ (c ∷ [])) (length ys) v ∙ ap (λ q. xs ++ q) (set_at ys c [] v (length ys) refl)

postfix-remade : (f : Formula) (p i : ℕ) (o : Op) → operations (p + i) p f ≡ 1 → postfix (remade (only (p + i) o) p f) ≡ set (postfix f) i (code o)
postfix-remade (leaf s) p i o e = absurd (omega arith)
postfix-remade (node x l r) p i o e = go (where_is (size l) (size r) i) (postfix-remade l p i o) (λ j. postfix-remade r (p + size l) j o)
  where
    go : Where (size l) (size r) i → (operations (p + i) p l ≡ 1 → postfix (remade (only (p + i) o) p l) ≡ set (postfix l) i (code o))
        → ((j : ℕ) → operations (p + size l + j) (p + size l) r ≡ 1 → postfix (remade (only (p + size l + j) o) (p + size l) r) ≡ set (postfix r) j (code o))
        → postfix (remade (only (p + i) o) p (node x l r)) ≡ set (postfix (node x l r)) i (code o)
    go (in_left h) u w =
        let z = ne_eqb (p + i) (p + (size l + size r)) (λ n. omega arith) in
        let b = below_none r (p + size l) (p + i) (omega arith) in
        rw (z, none-remade r (p + size l) (p + i) o b, u (omega (arith, ap count z)))
        (sym (set-append_left (postfix l) (postfix r ++ (code x ∷ [])) i (code o) (omega (arith, length-postfix l))))
    go (in_right j y h) u w =
        let z = ne_eqb (p + i) (p + (size l + size r)) (λ n. omega arith) in
        let a = above_none l p (p + i) (omega arith) in
        let s : p + i ≡ p + size l + j = omega arith in
        let t : operations (p + size l + j) (p + size l) r ≡ 1 = ap (λ k. operations k (p + size l) r) (sym s) ∙ omega (arith, ap count z) in
        let k : i ≡ length (postfix l) + j = omega (arith, length-postfix l) in
        rw (z, none-remade l p (p + i) o a, ap (λ n. remade (only n o) (p + size l) r) s, w j t)
        (sym (ap (λ n. set (postfix (node x l r)) n (code o)) k ∙ set_append_right (postfix l) (postfix r ++ (code x ∷ [])) j (code o)
        ∙ ap (λ n. postfix l ++ n) (set-append_left (postfix r) (code x ∷ []) j (code o) (omega (arith, length-postfix r)))))
    go (at_own y) u w =
        let z = eq-eqb (p + i) (p + (size l + size r)) (omega arith) in
        let k : i ≡ length (postfix l) + length (postfix r) = omega (arith, length-postfix l, length-postfix r) in
        rw (z, none-remade l p (p + i) o (above_none l p (p + i) (omega arith)), none-remade r (p + size l) (p + i) o (above_none r (p + size l) (p + i) (omega arith)))
        (sym (ap (λ n. set (postfix (node x l r)) n (code o)) k ∙ own-set (postfix l) (postfix r) (code x) (code o)))
    go (beyond h) u w = absurd (omega (arith, above_none (node x l r) p (p + i) (omega arith)))

pub edited-postfix : (f : Formula) (p : ℕ) (o : Op) → operations p 0 f ≡ 1 → postfix (edited p o f) ≡ set (postfix f) p (code o)
edited-postfix f p o e =
    ap (λ q. postfix (edited q o f)) (sym (zero-add p)) ∙ postfix-remade f 0 p o (ap (λ q. operations q 0 f) (zero-add p) ∙ e)

pub over-remade : (g : ℕ → Op → Op) (f : Formula) (m p : ℕ) → Over m f → Over m (remade g p f)
over-remade g (leaf s) m p v = v
over-remade g (node o l r) m p v = (over-remade g l m p v.0, over-remade g r m (p + size l) v.1)

pub size-remade : (g : ℕ → Op → Op) (f : Formula) (p : ℕ) → size (remade g p f) ≡ size f
size-remade g (leaf s) p = refl
size-remade g (node o l r) p = ap suc (ap₂ ◌+◌ (size-remade g l p) (size-remade g r (p + size l)))

-- One operation at most stands at a position.
at_most-one-operation : (f : Formula) (p q : ℕ) → operations q p f ≤ 1
at_most-one-operation (leaf s) p q = omega arith
at_most-one-operation (node o l r) p q =
    go (ltb q (p + size l)) refl (eqb q (p + (size l + size r))) refl (at_most-one-operation l p q) (at_most-one-operation r (p + size l) q)
  where
    go : (b : Bool) → ltb q (p + size l) ≡ b → (c : Bool) → eqb q (p + (size l + size r)) ≡ c → operations q p l ≤ 1 → operations q (p + size l) r ≤ 1
        → operations q p (node o l r) ≤ 1
    go b e true z u w =
        let s : q ≡ p + (size l + size r) = eqb-true q (p + (size l + size r)) z in
        omega (arith, ap count z, above_none l p q (omega arith), above_none r (p + size l) q (omega arith))
    go true e false z u w = omega (arith, ap count z, below_none r (p + size l) q (ltb-true q (p + size l) e))
    go false e false z u w = omega (arith, ap count z, above_none l p q (ltb-false q (p + size l) e))

pub one_or-none : (f : Formula) (p q : ℕ) → (operations q p f ≡ 0) ⊎ (operations q p f ≡ 1)
one_or-none f p q = go (operations q p f) (at_most-one-operation f p q)
  where
    go : (n : ℕ) → n ≤ 1 → (n ≡ 0) ⊎ (n ≡ 1)
    go zero h = inl refl
    go (suc zero) h = inr refl
    go (suc (suc n)) h = absurd (omega arith)
