-- What one code more adds to the judgement of a formula's codes.
use Prim.Native.Nat.{ℕ, suc, ◌+◌, ◌-◌, ◌*◌, ◌/◌, ◌%◌, ◌≤◌, ◌<◌}
use native.Mathlib.Omega.{arith}
use native.Mathlib.Numerals.{add-one, add-two}
use native.Mathlib.Nat.{add_assoc, add-zero}
use mathlib.Core.Path.{◌≡◌, refl, sym, ap, ◌∙◌}
use mathlib.Core.Bool.{Bool, true, false, cond, ◌&&◌}
use mathlib.Core.List.{List, [], ◌∷◌}
use mathlib.Core.Option.{none, some}
use lib.ListN.{length, drop, drop_of_length-le}
use lib.Seq.{drop-cons}
use lib.Dec.{ltb, leb, eqb}
use borrow.Author.Tests.{lt-ltb, le-ltb, le-leb, ne_eqb}
use Rattle.outcome.specs.Outcome.{Outcome, given, refused, need, ◌>>=◌, ◌>>◌, part}
use Rattle.formula.specs.Formula.{Op, Formula, leaf, node, leaves}
use Rattle.formula.specs.Codes.{is_operation, op_of, operation}
use Rattle.sheet.specs.Sheet.{two_bytes_at, codes_of, joined, all_codes, only_one, formula_of}
use Rattle.sheet_codes.specs.Operands.{counted_leaves}

-- ---- countedLeaves: operands by their number, leaves by their sum

abbrev all_leaves : List Formula → ℕ
all_leaves [] = 0
all_leaves (f ∷ fs) = leaves f + all_leaves fs

end_counted : (n tag at : ℕ) (fs : List Formula) → part leaves (only_one tag fs) ≡ counted_leaves n tag at [] (length fs) (all_leaves fs)
unfolding counted_leaves
end_counted n tag at [] = refl
end_counted n tag at (f ∷ []) = ap given (sym (add-zero (leaves f)))
end_counted n tag at (f ∷ g ∷ fs) = rw (ne_eqb (suc (suc (length fs))) 1 (λ e. omega arith))

module _ (n tag at c : ℕ) (cs : List ℕ)
    (ih : (gs : List Formula) → part leaves (all_codes n (at + 2) cs gs >>= only_one tag) ≡ counted_leaves n tag (at + 2) cs (length gs) (all_leaves gs)) where
  like : (gs : List Formula) (w l : ℕ) → length gs ≡ w → all_leaves gs ≡ l → part leaves (all_codes n (at + 2) cs gs >>= only_one tag) ≡ counted_leaves n tag (at + 2) cs w l
  like gs w l p q = ih gs ∙ rw (p, q)

  joined_counted : (b : Bool) (o : Op) (fs : List Formula)
      → part leaves ((joined at (cond b (some o) none) fs >>= all_codes n (at + 2) cs) >>= only_one tag)
      ≡ cond (b && leb 2 (length fs)) (counted_leaves n tag (at + 2) cs (length fs - 1) (all_leaves fs)) (refused 7 at)
  joined_counted false o fs = refl
  joined_counted true o [] = refl
  joined_counted true o (r ∷ []) = refl
  joined_counted true o (r ∷ l ∷ fs) =
      rw (le-leb 2 (suc (suc (length fs))) (omega arith)) (like (node o l r ∷ fs) (suc (suc (length fs)) - 1) (leaves r + (leaves l + all_leaves fs)) (omega arith) (omega arith))

  code_counted : (b : Bool) (fs : List Formula)
      → part leaves ((cond b (given (leaf c ∷ fs)) (joined at (operation c) fs) >>= all_codes n (at + 2) cs) >>= only_one tag)
      ≡ cond b (counted_leaves n tag (at + 2) cs (length fs + 1) (all_leaves fs + 1))
      (cond (is_operation c && leb 2 (length fs)) (counted_leaves n tag (at + 2) cs (length fs - 1) (all_leaves fs)) (refused 7 at))
  code_counted true fs = like (leaf c ∷ fs) (length fs + 1) (all_leaves fs + 1) (omega arith) (omega arith)
  code_counted false fs = joined_counted (is_operation c) (op_of c) fs

codes_counted : (cs : List ℕ) (n tag at : ℕ) (fs : List Formula) → part leaves (all_codes n at cs fs >>= only_one tag) ≡ counted_leaves n tag at cs (length fs) (all_leaves fs)
unfolding all_codes counted_leaves
codes_counted [] n tag at fs = end_counted n tag at fs
codes_counted (c ∷ cs) n tag at fs = code_counted n tag at c cs (codes_counted cs n tag (at + 2)) (ltb c n) fs

pub formula_of_counted : (n tag first : ℕ) (cs : List ℕ) → part leaves (formula_of n tag first cs) ≡ counted_leaves n tag first cs 0 0
unfolding formula_of
formula_of_counted n tag first cs = codes_counted cs n tag first []

-- ---- codes_of

pub codes_more : (p : List ℕ) (i : ℕ) → i + 1 < length p → codes_of (drop i p) ≡ two_bytes_at p i ∷ codes_of (drop (i + 2) p)
unfolding codes_of
codes_more p i h =
    let k : i < length p = omega arith in
    let l : suc i < length p = omega arith in
    rw (add-two i, add-one i, drop-cons p i 0 k, drop-cons p (suc i) 0 l)

asked_both : (a b : Bool) (place : ℕ) (rest : Outcome ℕ) → cond (a && b) rest (refused 7 place) ≡ (need a 7 place >> (need b 7 place >> rest))
asked_both true true place rest = refl
asked_both true false place rest = refl
asked_both false b place rest = refl

-- ---- judge: the code c is the one after i of the formula's bytes p, with w operands waiting and l leaves passed

module _ (n tag first : ℕ) (p : List ℕ) (i w l : ℕ) (all : Outcome ℕ) (inv : all ≡ counted_leaves n tag (first + 2 * i) (codes_of (drop (2 * i) p)) w l) where
  module _ (more : i < length p / 2) (c : ℕ) (is : c ≡ two_bytes_at p (2 * i)) where
    count_more : all ≡ cond (ltb c n) (counted_leaves n tag (first + 2 * (i + 1)) (codes_of (drop (2 * (i + 1)) p)) (w + 1) (l + 1))
        (cond (is_operation c && leb 2 w) (counted_leaves n tag (first + 2 * (i + 1)) (codes_of (drop (2 * (i + 1)) p)) (w - 1) l) (refused 7 (first + 2 * i)))
    unfolding counted_leaves
    count_more =
        let h : 2 * i + 1 < length p = omega arith in
        let next : 2 * (i + 1) ≡ 2 * i + 2 = omega arith in
        inv ∙ rw (codes_more p (2 * i) h, ← is, next, ← add_assoc first (2 * i) 2)

    pub count-leaf : c < n → all ≡ counted_leaves n tag (first + 2 * (i + 1)) (codes_of (drop (2 * (i + 1)) p)) (w + 1) (l + 1)
    count-leaf h = count_more ∙ rw (lt-ltb c n h)

    pub count-operation : n ≤ c → all ≡ (need (is_operation c) 7 (first + 2 * i) >> (need (leb 2 w) 7 (first + 2 * i) >> counted_leaves n tag (first + 2 * (i + 1)) (codes_of (drop (2 * (i + 1)) p)) (w - 1) l))
    count-operation h = count_more ∙ rw (le-ltb c n h) (asked_both (is_operation c) (leb 2 w) (first + 2 * i) _)

  pub count_end : length p / 2 ≤ i → length p % 2 ≡ 0 → all ≡ (need (eqb w 1) 7 tag >> given l)
  unfolding counted_leaves codes_of
  count_end done even = let h : length p ≤ 2 * i = omega arith in inv ∙ rw (drop_of_length-le p h)
