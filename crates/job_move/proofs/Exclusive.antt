-- 0xFFF3 among codes: found by one pass over them, and the same in either order.
use Prim.Native.Nat.{ℕ, suc, ◌+◌, ◌*◌, ◌/◌, ◌^◌, ◌≤◌, ◌<◌}
use native.Mathlib.Omega.{arith}
use native.Mathlib.Numerals.{add-one}
use mathlib.Core.Path.{◌≡◌, refl, sym, ap, ◌∙◌}
use mathlib.Core.Bool.{Bool, true, false, cond, ◌||◌}
use mathlib.Core.List.{List, [], ◌∷◌, ◌++◌}
use lib.ListN.{length, get_or, take, drop, length-drop}
use lib.Seq.{take-suc, take_all}
use lib.Dec.{eqb}
use borrow.Author.Tests.{eq-eqb, ne_eqb}
use Rattle.std.specs.Prelude.{Some, None}
use Rattle.formula.specs.Formula.{exclusive, code, Formula, leaf, node, postfix, prefix}
use Rattle.sheet.specs.Sheet.{two_bytes_at, codes_of, codes_in}
use Rattle.sheet.proofs.Codes.{length-codes_of}
use Rattle.sheet_codes.proofs.CodeSteps.{codes_more}
use Rattle.job_move.specs.Moving.{has_exclusive, before_exclusive}
use Rattle.job_move.specs.Putting.{one_exclusive, many_exclusive, first_exclusive}

-- ---- it is among codes exactly if not all of them stand before it

none_by : (cs : List ℕ) (b : Bool) → (length cs ≤ before_exclusive cs → has_exclusive cs ≡ false)
    → suc (length cs) ≤ elim b [ true ↦ 0 | false ↦ suc (before_exclusive cs) ] → (b || has_exclusive cs) ≡ false
none_by cs true ih h = absurd (omega (arith, h))
none_by cs false ih h = ih (omega (arith, h))

pub some_of : (b : Bool) (i k : ℕ) → Some i ≡ cond b (Some k) None → (b ≡ true) × (i ≡ k)
some_of true i k e = (refl, cc e)
some_of false i k e = let q : ◌≡◌ {A = ℕ} 0 1 = cc e in absurd (omega (arith, q))

pub none_of : (b : Bool) (k : ℕ) → None ≡ cond b (Some k) None → b ≡ false
none_of true k e = let q : ◌≡◌ {A = ℕ} 0 1 = cc e in absurd (omega (arith, q))
none_of false k e = refl

pub has-none : (cs : List ℕ) → length cs ≤ before_exclusive cs → has_exclusive cs ≡ false
unfolding has_exclusive before_exclusive
has-none [] h = refl
has-none (c ∷ cs) h = none_by cs (eqb c (code exclusive)) (has-none cs) h

some_by : (cs : List ℕ) (b : Bool) → (before_exclusive cs < length cs → has_exclusive cs ≡ true)
    → elim b [ true ↦ 0 | false ↦ suc (before_exclusive cs) ] < suc (length cs) → (b || has_exclusive cs) ≡ true
some_by cs true ih h = refl
some_by cs false ih h = ih (omega (arith, h))

pub has_some : (cs : List ℕ) → before_exclusive cs < length cs → has_exclusive cs ≡ true
unfolding has_exclusive before_exclusive
has_some [] h = absurd (omega (arith, h))
has_some (c ∷ cs) h = some_by cs (eqb c (code exclusive)) (has_some cs) h

most_by : (cs : List ℕ) (b : Bool) → before_exclusive cs ≤ length cs → elim b [ true ↦ 0 | false ↦ suc (before_exclusive cs) ] ≤ suc (length cs)
most_by cs true ih = omega arith
most_by cs false ih = omega (arith, ih)

pub before_most : (cs : List ℕ) → before_exclusive cs ≤ length cs
unfolding before_exclusive
before_most [] = omega arith
before_most (c ∷ cs) = most_by cs (eqb c (code exclusive)) (before_most cs)

-- ---- in either order

or_assoc : (a b c : Bool) → ((a || b) || c) ≡ (a || (b || c))
or_assoc true b c = refl
or_assoc false b c = refl

has-append : (xs ys : List ℕ) → has_exclusive (xs ++ ys) ≡ (has_exclusive xs || has_exclusive ys)
unfolding has_exclusive
has-append [] ys = refl
has-append (x ∷ xs) ys = ap (λ (b : Bool). eqb x (code exclusive) || b) (has-append xs ys) ∙ sym (or_assoc (eqb x (code exclusive)) (has_exclusive xs) (has_exclusive ys))

last-first : (a b c : Bool) → (a || (b || (c || false))) ≡ (c || (a || b))
last-first true b true = refl
last-first true b false = refl
last-first false true true = refl
last-first false true false = refl
last-first false false true = refl
last-first false false false = refl

has_order : (f : Formula) → has_exclusive (prefix f) ≡ has_exclusive (postfix f)
unfolding has_exclusive
has_order (leaf s) = refl
has_order (node o l r) =
    let c = eqb (code o) (code exclusive) in
    ap (λ (b : Bool). c || b) (has-append (prefix l) (prefix r))
    ∙ rw (has_order l, has_order r) (sym (last-first (has_exclusive (postfix l)) (has_exclusive (postfix r)) c))
    ∙ ap (λ (b : Bool). has_exclusive (postfix l) || b) (sym (has-append (postfix r) (code o ∷ [])))
    ∙ sym (has-append (postfix l) (postfix r ++ (code o ∷ [])))

pub has_either : (edition : ℕ) (f : Formula) → has_exclusive (codes_in edition f) ≡ has_exclusive (postfix f)
has_either edition f = by (eqb edition 1)
  where
    by : (b : Bool) → has_exclusive (cond b (postfix f) (prefix f)) ≡ has_exclusive (postfix f)
    by true = refl
    by false = has_order f

-- ---- how many they are

many_append : (xs : List ℕ) (c : ℕ) → many_exclusive (xs ++ (c ∷ [])) ≡ many_exclusive xs + one_exclusive c
unfolding many_exclusive
many_append [] c = omega arith
many_append (x ∷ xs) c = omega (arith, many_append xs c)

-- none of them are: all stand before it
before_by : (cs : List ℕ) (b : Bool) → (many_exclusive cs ≡ 0 → before_exclusive cs ≡ length cs) → cond b 1 0 + many_exclusive cs ≡ 0
    → elim b [ true ↦ 0 | false ↦ suc (before_exclusive cs) ] ≡ suc (length cs)
before_by cs true ih e = absurd (omega (arith, e))
before_by cs false ih e = ap suc (ih (omega (arith, e)))

before-none : (cs : List ℕ) → many_exclusive cs ≡ 0 → before_exclusive cs ≡ length cs
unfolding many_exclusive before_exclusive
before-none [] e = refl
before-none (c ∷ cs) e = before_by cs (eqb c (code exclusive)) (before-none cs) e

pub none_among : (cs : List ℕ) → many_exclusive cs ≡ 0 → has_exclusive cs ≡ false
none_among cs e = has-none cs (omega (arith, before-none cs e))

one_most : (b : Bool) → cond b 1 0 ≤ 1
one_most true = omega arith
one_most false = omega arith

-- So many of the first i codes are counted.
pub record Counted (codes : List ℕ) (i many : ℕ) : Type 0 where
  pub are : many ≡ many_exclusive (take i codes)
  pub most : many ≤ i

pub counted_none : (codes : List ℕ) → Counted codes 0 0
unfolding many_exclusive
counted_none codes = record { are = refl; most = omega arith }

module _ (codes : List ℕ) (i many one : ℕ) (so : Counted codes i many) (e : one ≡ one_exclusive (get_or codes i 0)) (more : i < length codes) where
  pub counted_fits : length codes ≤ 2048 → many + one < 2 ^ 16
  counted_fits few = omega (arith, so.most, e, one_most (eqb (get_or codes i 0) (code exclusive)))

  pub counted_more : Counted codes (i + 1) (many + one)
  counted_more =
      let c = get_or codes i 0 in
      let t : take (i + 1) codes ≡ take i codes ++ (c ∷ []) = ap (λ (k : ℕ). take k codes) (add-one i) ∙ take-suc codes i 0 more in
      record {
        are = omega (arith, so.are, e, many_append (take i codes) c) ∙ ap many_exclusive (sym t);
        most = omega (arith, so.most, e, one_most (eqb c (code exclusive)));
      }

pub counted_all : (codes : List ℕ) (i many : ℕ) → Counted codes i many → length codes ≤ i → many ≡ many_exclusive codes
counted_all codes i many so h = so.are ∙ ap many_exclusive (take_all i codes h)

-- ---- the first one, among a formula's bytes

-- What is left decides.
pub record Looked (bytes : List ℕ) (i : ℕ) : Type 0 where
  pub has : has_exclusive (codes_of bytes) ≡ has_exclusive (codes_of (drop (2 * i) bytes))
  pub whole : before_exclusive (codes_of bytes) ≡ i + before_exclusive (codes_of (drop (2 * i) bytes))

pub looked_none : (bytes : List ℕ) → Looked bytes 0
looked_none bytes = record { has = refl; whole = omega arith }

module _ (bytes : List ℕ) (i : ℕ) (so : Looked bytes i) where
  module _ (c : ℕ) (is : c ≡ two_bytes_at bytes (2 * i)) (more : i < length bytes / 2) where
    one_more : codes_of (drop (2 * i) bytes) ≡ c ∷ codes_of (drop (2 * i + 2) bytes)
    one_more = codes_more bytes (2 * i) (omega arith) ∙ rw (← is)

    pub looked_here : (x : ℕ) → x ≡ 0xFFF3 → c ≡ x → Some i ≡ first_exclusive (codes_of bytes)
    unfolding has_exclusive before_exclusive
    looked_here x f d =
        let e : c ≡ 0xFFF3 = d ∙ f in
        let has : has_exclusive (codes_of (drop (2 * i) bytes)) ≡ true = ap has_exclusive one_more ∙ rw (eq-eqb c 0xFFF3 e, has_exclusive) in
        let here : before_exclusive (codes_of (drop (2 * i) bytes)) ≡ 0 = ap before_exclusive one_more ∙ rw (eq-eqb c 0xFFF3 e, before_exclusive) in
        let at-i : before_exclusive (codes_of bytes) ≡ i = omega (arith, so.whole, here) in
        rw (so.has ∙ has, at-i) refl

    pub looked_more : (x : ℕ) → x ≡ 0xFFF3 → (c ≡ x → ⊥) → Looked bytes (i + 1)
    unfolding has_exclusive before_exclusive
    looked_more x f d =
        let e : c ≡ 0xFFF3 → ⊥ = λ q. d (q ∙ sym f) in
        let next : 2 * (i + 1) ≡ 2 * i + 2 = omega arith in
        let has : has_exclusive (codes_of (drop (2 * i) bytes)) ≡ has_exclusive (codes_of (drop (2 * i + 2) bytes)) = ap has_exclusive one_more ∙ rw (ne_eqb c 0xFFF3 e, has_exclusive) in
        let here : before_exclusive (codes_of (drop (2 * i) bytes)) ≡ suc (before_exclusive (codes_of (drop (2 * i + 2) bytes))) = ap before_exclusive one_more ∙ rw (ne_eqb c 0xFFF3 e, before_exclusive) in
        record { has = rw next (so.has ∙ has); whole = rw next (omega (arith, so.whole, here)) }

  pub looked_all : length bytes / 2 ≤ i → None ≡ first_exclusive (codes_of bytes)
  looked_all done =
      let rest = drop (2 * i) bytes in
      let no : has_exclusive (codes_of rest) ≡ false = has-none (codes_of rest) (omega (arith, length-codes_of rest, length-drop (2 * i) bytes)) in
      rw (so.has ∙ no) refl

-- ---- what its answer says

pub first_none : (cs : List ℕ) → None ≡ first_exclusive cs → has_exclusive cs ≡ false
first_none cs e = none_of (has_exclusive cs) (before_exclusive cs) e

pub first_some : (cs : List ℕ) (i : ℕ) → Some i ≡ first_exclusive cs → (has_exclusive cs ≡ true) × (i ≡ before_exclusive cs)
first_some cs i e = some_of (has_exclusive cs) i (before_exclusive cs) e
