-- The whole formula descended: what its end leaves.
use Prim.Native.Nat.{ℕ, ◌+◌, ◌*◌, ◌/◌, ◌≤◌, ◌<◌}
use native.Mathlib.Omega.{arith}
use native.Mathlib.Nat.{add-zero}
use mathlib.Core.Path.{◌≡◌, refl, sym, ap, ◌∙◌}
use mathlib.Core.Bool.{Bool, true, false}
use mathlib.Core.List.{List, [], ◌∷◌, ◌++◌}
use lib.ListN.{length, take, drop, drop_of_length-le}
use lib.Dec.{leb}
use borrow.Author.Tests.{leb-true, leb-false, eq-eqb, ne_eqb}
use Rattle.outcome.specs.Outcome.{given, refused, need, ◌>>◌, part}
use Rattle.outcome.proofs.Questions.{given-same}
use Rattle.formula.specs.Formula.{Formula, leaves, postfix, prefix}
use Rattle.formula.proofs.Laws.{length-prefix, length-postfix}
use Rattle.sheet.specs.Sheet.{codes_of, all_first, formula_of, formula_first, formula_in}
use Rattle.sheet.proofs.Codes.{formula_of-postfix}
use Rattle.sheet.proofs.CodesFirst.{first-prefix}
use Rattle.sheet_codes.specs.Codes.{CodesStand}
use Rattle.sheet_codes.proofs.CodeSteps.{codes_more}
use Rattle.sheet_descent.specs.Descent.{IsWhole, IsWrong, EndsEarly, short_at, FirstFits, GoodFirst, GoodIn, in_postfix}

module _ (n tag first : ℕ) (p : List ℕ) (fits : FirstFits n first p) where
  early-first : EndsEarly n p 0 (length p) → formula_first n tag first (codes_of p) ≡ refused 7 (short_at n tag first (codes_of p))
  unfolding formula_first
  early-first w =
      let h : all_first n tag first (codes_of p) 1 ≡ refused 7 (short_at n tag first (codes_of p)) = rw add-zero at (w.is tag first 0 (omega arith)) in
      rw h

  wrong_first : (place : ℕ) → IsWrong n p 0 place → formula_first n tag first (codes_of p) ≡ refused 7 (first + place)
  unfolding formula_first
  wrong_first place w =
      let h : all_first n tag first (codes_of p) 1 ≡ refused 7 (first + place) = rw add-zero at (w.is tag first 0) in
      rw h

  pub judged-wrong : (place : ℕ) → IsWrong n p 0 place → refused 7 (first + place) ≡ part leaves (formula_first n tag first (codes_of p))
  judged-wrong place w = rw (wrong_first place w)

  pub judged-early : EndsEarly n p 0 (length p) → (at : ℕ) → at ≡ short_at n tag first (codes_of p) → refused 7 at ≡ part leaves (formula_first n tag first (codes_of p))
  judged-early w at is = rw (early-first w, is)

  module _ (old new : List ℕ) (r : ℕ) (it : IsWhole n p 0 (length p) old new 0 r) where
    past : all_first n tag first (codes_of p) 1 ≡ part (λ fs. it.formula ∷ fs) (all_first n tag (first + r) (codes_of (drop r p)) 0)
    past =
        let f = it.formula in
        let q : first + 2 * length (prefix f) ≡ first + r = omega (arith, it.next_is, length-prefix f) in
        let c : codes_of p ≡ prefix f ++ codes_of (drop r p) = it.codes_are in
        rw c (first-prefix n fits.few_names tag f first (codes_of (drop r p)) 0 it.over)
        ∙ ap (λ (i : ℕ). part (λ fs. f ∷ fs) (all_first n tag i (codes_of (drop r p)) 0)) q

    over_first : r < length p → formula_first n tag first (codes_of p) ≡ refused 7 (first + r)
    unfolding formula_first all_first
    over_first h =
        let k : r + 1 < length p = omega (arith, fits.even, it.next_is) in
        let g : all_first n tag (first + r) (codes_of (drop r p)) 0 ≡ refused 7 (first + r) = rw (codes_more p r k) refl in
        rw (past, g)

    good_first : length p ≤ r → formula_first n tag first (codes_of p) ≡ given it.formula
    unfolding formula_first all_first codes_of
    good_first h =
        let g : all_first n tag (first + r) (codes_of (drop r p)) 0 ≡ given [] = rw (drop_of_length-le p h) refl in
        rw (past, g)

    -- codes that go on after the formula, or not
    pub judged-whole : part leaves (formula_first n tag first (codes_of p)) ≡ (need (leb (length p) r) 7 (first + r) >> given ((r / 2 + 1) / 2))
    judged-whole = whole-by (leb (length p) r) refl
      where
        whole-by : (b : Bool) → leb (length p) r ≡ b → part leaves (formula_first n tag first (codes_of p)) ≡ (need b 7 (first + r) >> given ((r / 2 + 1) / 2))
        whole-by true q =
            let half : (r / 2 + 1) / 2 ≡ leaves it.formula = omega (arith, length-postfix it.formula, it.next_is) in
            rw (good_first (leb-true _ _ q), half)
        whole-by false q = rw (over_first (leb-false _ _ q))

    stands : CodesStand (postfix it.formula) new (r / 2)
    stands =
        let many : r / 2 ≡ 0 + length (postfix it.formula) = omega (arith, it.next_is) in
        record { all = omega (arith, many); are = ap (λ (k : ℕ). take k new) many ∙ it.written; sized = it.sized }

    stands_by : (f : Formula) → formula_first n tag first (codes_of p) ≡ given f → (b : Bool) → leb (length p) r ≡ b → CodesStand (postfix f) new (r / 2)
    stands_by f is true q = let e : it.formula ≡ f = given-same _ _ (sym (good_first (leb-true _ _ q)) ∙ is) in rw (← e) stands
    stands_by f is false q =
        let h : refused 7 (first + r) ≡ given f = sym (over_first (leb-false _ _ q)) ∙ is in
        let z : ◌≡◌ {A = ℕ} 0 1 = cc h in
        absurd (omega arith)

-- ---- the codes of a good formula

module _ (n : ℕ) (p old : List ℕ) (good : GoodFirst n p old) where
  fits-first : FirstFits n 0 p
  fits-first = let few : length p ≤ 4094 = good.fits.few in record { few_names = good.few_names; few = good.fits.few; even = good.fits.even; near = omega arith }

  refused_not : (place : ℕ) → formula_first n 0 0 (codes_of p) ≡ refused 7 place → ⊥
  refused_not place is =
      let h : refused 7 place ≡ given good.formula = sym is ∙ good.is in
      let z : ◌≡◌ {A = ℕ} 0 1 = cc h in
      omega arith

  pub never_wrong : (place : ℕ) → IsWrong n p 0 place → ⊥
  never_wrong place w = refused_not (0 + place) (wrong_first n 0 0 p fits-first place w)

  pub never_ends : EndsEarly n p 0 (length p) → ⊥
  never_ends w = refused_not (short_at n 0 0 (codes_of p)) (early-first n 0 0 p fits-first w)

  pub filled : (new : List ℕ) (r : ℕ) → IsWhole n p 0 (length p) old new 0 r → CodesStand (in_postfix (formula_first n 0 0 (codes_of p))) new (r / 2)
  filled new r it = rw good.is (stands_by n 0 0 p fits-first old new r it good.formula good.is (leb (length p) r) refl)

-- ---- in either edition

module _ (ed n : ℕ) (p old : List ℕ) (good : GoodIn ed n p old) where
  module _ (one : ed ≡ 1) where
    first_is : formula_of n 0 0 (codes_of p) ≡ given good.formula
    unfolding formula_in
    first_is = let h = good.is in rw (eq-eqb ed 1 one) at h

    pub in_postfix_lem : (new : List ℕ) (count : ℕ) → CodesStand (codes_of p) new count → CodesStand (in_postfix (formula_in ed n 0 0 (codes_of p))) new count
    in_postfix_lem new count stand = let c = (formula_of-postfix n 0 0 (codes_of p) good.formula first_is).0 in rw (good.is, c) stand

  module _ (other : ed ≡ 1 → ⊥) where
    is_first : formula_in ed n 0 0 (codes_of p) ≡ formula_first n 0 0 (codes_of p)
    unfolding formula_in
    is_first = rw (ne_eqb ed 1 other)

    pub good_second : GoodFirst n p old
    good_second = record { few_names = good.few_names; fits = good.fits; formula = good.formula; is = sym is_first ∙ good.is }

    pub in_prefix : (new : List ℕ) (count : ℕ) → CodesStand (in_postfix (formula_first n 0 0 (codes_of p))) new count → CodesStand (in_postfix (formula_in ed n 0 0 (codes_of p))) new count
    in_prefix new count stand = rw is_first stand
