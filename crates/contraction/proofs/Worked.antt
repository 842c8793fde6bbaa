-- Numbers worked out for records in rising order: they are what the rule asks for, where each number hangs on earlier ones alone.
use Prim.Native.Nat.{ℕ, zero, suc, ◌+◌, ◌<◌}
use native.Mathlib.Nat.{add-zero, add-suc, suc-add}
use native.Mathlib.Omega.{arith}
use mathlib.Core.Path.{◌≡◌, refl, sym, ◌∙◌, subst}
use mathlib.Core.List.{List, [], ◌∷◌, ◌++◌}
use lib.ListN.{length, get_or, length-append, get_or-append}
use lib.Seq.{get_or-append_seam}
use Rattle.contraction.specs.Records.{Rec}
use Rattle.contraction.specs.Height.{worked, last}
use Rattle.contraction.specs.Terms.{Each}

-- P holds of each record and its number, from n on
module _ (P : ℕ → Rec → Type 0) where
  pub each_append : (rs qs : List Rec) (n : ℕ) → Each P n rs → Each P (n + length rs) qs → Each P n (rs ++ qs)
  each_append [] qs n p q = rw add-zero at q
  each_append (r ∷ rs) qs n p q = (p.0, each_append rs qs (suc n) p.1 (rw (add-suc, ← suc-add) at q))

-- the numbers from n on are those that the rule gives the records
module _ (by : List ℕ → Rec → ℕ) (xs : List ℕ) where
  abbrev pub Good : ℕ → List Rec → Type 0
  Good n [] = Unit {0}
  Good n (r ∷ rs) = (get_or xs n 0 ≡ by xs r) × Good (suc n) rs

  pub good_left : (rs qs : List Rec) (n : ℕ) → Good n (rs ++ qs) → Good n rs
  good_left [] qs n g = tt
  good_left (r ∷ rs) qs n g = (g.0, good_left rs qs (suc n) g.1)

  pub good_right : (rs qs : List Rec) (n : ℕ) → Good n (rs ++ qs) → Good (n + length rs) qs
  good_right [] qs n g = rw add-zero g
  good_right (r ∷ rs) qs n g = rw (add-suc, ← suc-add) (good_right rs qs (suc n) g.1)

module _ (by : List ℕ → Rec → ℕ) where
  -- the number of the record hangs on the numbers below n alone
  abbrev pub Steady : ℕ → Rec → Type 0
  Steady n r = (xs ys : List ℕ) → ((i : ℕ) → i < n → get_or xs i 0 ≡ get_or ys i 0) → by xs r ≡ by ys r

  -- the numbers of later records leave the earlier ones as they are
  pub keeps : (rs : List Rec) (xs : List ℕ) (i : ℕ) → i < length xs → get_or (worked by xs rs) i 0 ≡ get_or xs i 0
  keeps [] xs i h = refl
  keeps (r ∷ rs) xs i h =
      keeps rs (xs ++ (by xs r ∷ [])) i (omega (arith, length-append xs (by xs r ∷ [])))
      ∙ get_or-append xs (by xs r ∷ []) 0 i h

  pub worked_good : (rs : List Rec) (xs : List ℕ) (n : ℕ) → length xs ≡ n → Each Steady n rs → Good by (worked by xs rs) n rs
  worked_good [] xs n e p = tt
  worked_good (r ∷ rs) xs n e p =
      let x = by xs r in
      let more : length (xs ++ (x ∷ [])) ≡ suc n = omega (arith, length-append xs (x ∷ [])) in
      let kept : (i : ℕ) → i < n → get_or xs i 0 ≡ get_or (worked by xs (r ∷ rs)) i 0 = λ i h. sym (keeps (r ∷ rs) xs i (omega arith)) in (
        subst (λ (k : ℕ). get_or (worked by (xs ++ (x ∷ [])) rs) k 0 ≡ x) e
            (keeps rs (xs ++ (x ∷ [])) (length xs) (omega arith) ∙ get_or-append_seam xs x [] 0)
            ∙ p.0 xs (worked by xs (r ∷ rs)) kept,
        worked_good rs (xs ++ (x ∷ [])) (suc n) more p.1,
      )

pub last_is : (l : List ℕ) (d : ℕ) → length l ≡ suc d → last l ≡ get_or l d 0
last_is [] d e = absurd (omega arith)
last_is (x ∷ []) zero e = refl
last_is (x ∷ []) (suc d) e = absurd (omega arith)
last_is (x ∷ y ∷ ys) zero e = absurd (omega arith)
last_is (x ∷ y ∷ ys) (suc d) e = last_is (y ∷ ys) d (omega arith)

pub length-worked : (by : List ℕ → Rec → ℕ) (rs : List Rec) (xs : List ℕ) → length (worked by xs rs) ≡ length xs + length rs
length-worked by [] xs = omega arith
length-worked by (r ∷ rs) xs =
    omega (arith, length-worked by rs (xs ++ (by xs r ∷ [])), length-append xs (by xs r ∷ []))

-- for a loop: the records in two parts, and one record more
worked-append : (by : List ℕ → Rec → ℕ) (rs qs : List Rec) (xs : List ℕ) → worked by xs (rs ++ qs) ≡ worked by (worked by xs rs) qs
worked-append by [] qs xs = refl
worked-append by (r ∷ rs) qs xs = worked-append by rs qs (xs ++ (by xs r ∷ []))

pub worked_snoc : (by : List ℕ → Rec → ℕ) (rs : List Rec) (r : Rec) (xs : List ℕ)
    → worked by xs (rs ++ (r ∷ [])) ≡ worked by xs rs ++ (by (worked by xs rs) r ∷ [])
worked_snoc by rs r xs = worked-append by rs (r ∷ []) xs
