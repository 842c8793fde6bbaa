-- Laws of names: equal exactly when all their bytes are; what a good name is; the walk over the names.
use Prim.Native.Nat.{ℕ, zero, suc, ◌+◌, ◌-◌, ◌≤◌, ◌<◌}
use native.Mathlib.Omega.{arith}
use native.Mathlib.Nat.{eq-or-lt_of_le}
use mathlib.Core.Path.{◌≡◌, refl, sym, ap, ◌∙◌}
use mathlib.Core.Bool.{Bool, true, false, ◌&&◌, ◌||◌}
use mathlib.Core.List.{List, [], ◌∷◌, ◌++◌}
use mathlib.Core.Logic.{◌⊎◌, inl, inr}
use lib.ListN.{length, get_or, length-append, length-take, length-drop, get_or-append}
use lib.Seq.{get_or-append_seam}
use lib.Dec.{leb, eqb}
use borrow.Author.Tests.{leb-true, eqb-true, eq-eqb}
use Rattle.sheet.specs.Sheet.{most_names, between, length_at, past_at, bytes_at, all_good, same, taken}
use Rattle.sheet.specs.Walk.{walk_end, walk_names}
use Rattle.sheet.specs.Guaranteed.{GoodName, GoodNames}

and-true : (a b : Bool) → (a && b) ≡ true → (a ≡ true) × (b ≡ true)
and-true true b h = (refl, h)
and-true false b h = let z : ◌≡◌ {A = ℕ} 0 1 = cc in absurd (omega arith)

pub or-false : (a b : Bool) → (a || b) ≡ false → (a ≡ false) × (b ≡ false)
or-false true b h = let z : ◌≡◌ {A = ℕ} 0 1 = cc in absurd (omega arith)
or-false false b h = (refl, h)

pub or_assoc : (a b c : Bool) → (a || (b || c)) ≡ ((a || b) || c)
or_assoc true b c = refl
or_assoc false b c = refl

-- ---- allGood

pub all_good-at : (x : List ℕ) → all_good x ≡ true → (i : ℕ) → i < length x → (0x21 ≤ get_or x i 0) × (get_or x i 0 ≤ 0x7E)
unfolding all_good
all_good-at [] h i l = absurd (omega arith)
all_good-at (b ∷ bs) h zero l =
    let e = and-true (leb 0x21 b) (leb b 0x7E) (and-true (leb 0x21 b && leb b 0x7E) (all_good bs) h).0 in
    (leb-true 0x21 b e.0, leb-true b 0x7E e.1)
all_good-at (b ∷ bs) h (suc i) l = all_good-at bs (and-true (leb 0x21 b && leb b 0x7E) (all_good bs) h).1 i (omega arith)

-- ---- same: names are equal when all their bytes are

pub same_equal : (a b : List ℕ) → same a b ≡ true → a ≡ b
unfolding same
same_equal [] [] h = refl
same_equal [] (y ∷ ys) h = let z : ◌≡◌ {A = ℕ} 0 1 = cc in absurd (omega arith)
same_equal (x ∷ xs) [] h = let z : ◌≡◌ {A = ℕ} 0 1 = cc in absurd (omega arith)
same_equal (x ∷ xs) (y ∷ ys) h =
    let e = and-true (eqb x y) (same xs ys) h in
    let p : x ≡ y = eqb-true x y e.0 in
    let q : xs ≡ ys = same_equal xs ys e.1 in
    cc

same_self : (a : List ℕ) → same a a ≡ true
unfolding same
same_self [] = refl
same_self (x ∷ xs) = rw (eq-eqb x x refl) (same_self xs)

-- ---- taken: a name that is not taken is none of the names

taken_unlike : (ns : List (List ℕ)) (x : List ℕ) → taken ns x ≡ false → (k : ℕ) → k < length ns → get_or ns k [] ≡ x → ⊥
unfolding taken
taken_unlike [] x h k l e = omega arith
taken_unlike (y ∷ ys) x h zero l e =
    let f : true ≡ false = sym (same_self x) ∙ (rw e at (or-false (same y x) (taken ys x) h).0) in
    let z : ◌≡◌ {A = ℕ} 0 1 = cc in
    omega arith
taken_unlike (y ∷ ys) x h (suc k) l e = taken_unlike ys x (or-false (same y x) (taken ys x) h).1 k (omega arith) e

pub taken-append : (ms ns : List (List ℕ)) (x : List ℕ) → taken (ms ++ ns) x ≡ (taken ms x || taken ns x)
unfolding taken
taken-append [] ns x = refl
taken-append (m ∷ ms) ns x = ap (λ (b : Bool). same m x || b) (taken-append ms ns x) ∙ or_assoc (same m x) (taken ms x) (taken ns x)

-- ---- one good name more

pub GoodNames-none : GoodNames []
GoodNames-none = record { few = omega arith; good = λ k h. absurd (omega arith); unlike = λ j k h l e. omega arith }

module _ (ns : List (List ℕ)) (x : List ℕ) where
  last_is : (k : ℕ) → k ≡ length ns → get_or (ns ++ (x ∷ [])) k [] ≡ x
  last_is k e = rw e (get_or-append_seam ns x [] [])

  before_is : (k : ℕ) → k < length ns → get_or (ns ++ (x ∷ [])) k [] ≡ get_or ns k []
  before_is k h = get_or-append ns (x ∷ []) [] k h

  last_or-before : (k : ℕ) → k < length (ns ++ (x ∷ [])) → (k ≡ length ns) ⊎ (k < length ns)
  last_or-before k l = let m : k ≤ length ns = omega (arith, length-append ns (x ∷ [])) in eq-or-lt_of_le m

  module _ (gs : GoodNames ns) (g : GoodName x) (free : taken ns x ≡ false) where
    good_by : (k : ℕ) → (k ≡ length ns) ⊎ (k < length ns) → GoodName (get_or (ns ++ (x ∷ [])) k [])
    good_by k (inl e) = rw (last_is k e) g
    good_by k (inr h) = rw (before_is k h) (gs.good k h)

    unlike_by : (j k : ℕ) → j < k → (k ≡ length ns) ⊎ (k < length ns) → get_or (ns ++ (x ∷ [])) j [] ≡ get_or (ns ++ (x ∷ [])) k [] → ⊥
    unlike_by j k l (inl e) q =
        let h : j < length ns = omega arith in
        taken_unlike ns x free j h (sym (before_is j h) ∙ q ∙ last_is k e)
    unlike_by j k l (inr h) q =
        let i : j < length ns = omega arith in
        gs.unlike j k l h (sym (before_is j i) ∙ q ∙ before_is k h)

    pub GoodNames_more : length ns < most_names → GoodNames (ns ++ (x ∷ []))
    GoodNames_more room =
        record {
          few = simp length-append (omega arith);
          good = λ k h. good_by k (last_or-before k h);
          unlike = λ j k l h. unlike_by j k l (last_or-before k h);
        }

-- ---- walkNames, walkEnd

pub walk_length : (s : List ℕ) (at n : ℕ) → length (walk_names s at n) ≡ n
unfolding walk_names
walk_length s at zero = refl
walk_length s at (suc n) = ap suc (walk_length s (past_at s at) n)

-- one name more at the end of a walk
pub walk_names_more : (s : List ℕ) (at n : ℕ) → walk_names s at (suc n) ≡ walk_names s at n ++ (bytes_at s (walk_end s at n) ∷ [])
unfolding walk_names walk_end
walk_names_more s at zero = refl
walk_names_more s at (suc n) = ap (λ (l : List (List ℕ)). bytes_at s at ∷ l) (walk_names_more s (past_at s at) n)

pub walk_on : (s : List ℕ) (at n : ℕ) → at ≤ walk_end s at n
unfolding walk_end past_at
walk_on s at zero = omega arith
walk_on s at (suc n) = omega (arith, walk_on s (past_at s at) n)

pub walk_end_more : (s : List ℕ) (at n : ℕ) → walk_end s at (suc n) ≡ past_at s (walk_end s at n)
unfolding walk_end
walk_end_more s at zero = refl
walk_end_more s at (suc n) = walk_end_more s (past_at s at) n

-- ---- bytes_at

pub bytes-between : (s : List ℕ) (at e : ℕ) → e ≡ past_at s at → between s (at + 3) e ≡ bytes_at s at
unfolding past_at bytes_at
bytes-between s at e h = let k : e - (at + 3) ≡ length_at s at = omega arith in rw k

pub length-bytes_at : (s : List ℕ) (at : ℕ) → past_at s at ≤ length s → length (bytes_at s at) ≡ length_at s at
unfolding past_at bytes_at
length-bytes_at s at h = simp (length-take, length-drop) (omega arith)
