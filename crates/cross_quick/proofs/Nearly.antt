-- The two tests on a float, and the rank from the bits of one sum.
use mathlib.Core.Logic.{◌≢◌}
use mathlib.Core.Path.{◌≡◌, refl, sym, ap, ◌∙◌}
use Prim.Native.Nat.{ℕ, zero, suc, ◌+◌, ◌-◌, ◌*◌, ◌%◌, ◌^◌, ◌≤◌, ◌<◌}
use native.Mathlib.Nat.{le_trans}
use native.Mathlib.Omega.{arith}
use mathlib.Core.Bool.{Bool, true, false, not, cond, ◌&&◌, ◌||◌, false≢true}
use mathlib.Core.Option.{none, some}
use lib.Dec.{T, ltb, leb, eqb, lit<, lit≤}
use lib.IntN.{ℤ, pos, negsuc}
use lib.Ieee.{Float, nan, inf, fin, binary64, up, down, add, lt, le, eq, neg, of_bits, to_bits, is_nan}
use lib.Ieee.Fits.{down_pos}
use lib.Ieee.Nearest.{closest, closest_mono}
use borrow.Author.Tests.{lt-ltb, le-ltb, lt-leb, le-leb, eqb-true, eqb-false, leb-true, leb-false, ltb-true, ltb-false}
use Rattle.cross_ranks.specs.Ranks.{unrank}
use Rattle.cross_positions.specs.Positions.{signed, allowed, nearest_whole}
use Rattle.cross_positions.proofs.Numbers.{add_number}
use Rattle.cross_quick.specs.Given.{given, is_there}
use Rattle.cross_quick.proofs.Closest.{up_from, down_to}
use Rattle.cross_quick.proofs.Added.{off, add_bits}

-- ---- the constants of the code
abbrev Low : Float
Low = fin true 4294967295 (negsuc 0)

abbrev High : Float
High = fin false 4294967293 (negsuc 0)

-- 3 * 2 ^ 51 + 2 ^ 31
abbrev Large : Float
Large = fin false 3145729 (pos 31)

low_is : neg (of_bits binary64 0x41df_ffff_ffe0_0000) ≡ Low
unfolding neg of_bits
low_is = refl

high_is : of_bits binary64 0x41df_ffff_ffa0_0000 ≡ High
unfolding of_bits
high_is = refl

large_is : of_bits binary64 0x4338_0000_8000_0000 ≡ Large
unfolding of_bits
large_is = refl

-- ---- what is given
near : ℕ → ℤ → ℕ
near m e = closest (m * up e) (down e)

given_is : (s : Bool) (m : ℕ) (e : ℤ) → given (fin s m e) ≡ allowed (signed s (near m e))
unfolding given nearest_whole near
given_is s m e = by (allowed (signed s (near m e)))
  where
    by : (t : Bool) → is_there (cond t (some (signed s (near m e))) none) ≡ t
    by true = refl
    by false = refl

-- two tests that hold together
leb-leb : (a b c d : ℕ) → (a ≤ b → c ≤ d) → (b < a → d < c) → leb a b ≡ leb c d
leb-leb a b c d h k = by (leb a b) refl
  where
    by : (t : Bool) → leb a b ≡ t → leb a b ≡ leb c d
    by true e = e ∙ sym (le-leb c d (h (leb-true a b e)))
    by false e = e ∙ sym (lt-leb c d (k (leb-false a b e)))

ltb-leb : (a b c d : ℕ) → (a < b → c ≤ d) → (b ≤ a → d < c) → ltb a b ≡ leb c d
ltb-leb a b c d h k = by (ltb a b) refl
  where
    by : (t : Bool) → ltb a b ≡ t → ltb a b ≡ leb c d
    by true e = e ∙ sym (le-leb c d (h (ltb-true a b e)))
    by false e = e ∙ sym (lt-leb c d (k (ltb-false a b e)))

and-true : (t : Bool) → (t && true) ≡ t
and-true true = refl
and-true false = refl

allowed_minus : (n : ℕ) → allowed (signed true n) ≡ leb n 2147483647
allowed_minus zero = refl
allowed_minus (suc n) = and-true (leb n 2147483646) ∙ leb-leb n 2147483646 (suc n) 2147483647 (λ h. omega arith) (λ h. omega arith)

or_eq : (a b : ℕ) → (ltb a b || (eqb a b && true)) ≡ leb a b
or_eq a b = by (ltb a b) refl (eqb a b) refl
  where
    by : (t : Bool) → ltb a b ≡ t → (u : Bool) → eqb a b ≡ u → (t || (u && true)) ≡ leb a b
    by true e u f = sym (le-leb a b (let h = ltb-true a b e in omega arith))
    by false e true f = sym (le-leb a b (let h = eqb-true a b f in omega arith))
    by false e false f =
        let h = ltb-false a b e in
        let k : a ≢ b = eqb-false a b f in
        sym (lt-leb a b (omega arith))

-- above -2147483647.5 and up to 2147483646.5
minus_test : (m : ℕ) (e : ℤ) → ltb (m * up e * 2) (4294967295 * down e) ≡ leb (near m e) 2147483647
unfolding near
minus_test m e =
    ltb-leb (m * up e * 2) (4294967295 * down e) (near m e) 2147483647
    (λ h. down_to 2147483647 (m * up e) (down e) (down_pos e) h)
    (λ h. closest_mono 4294967295 2 (m * up e) (down e) (lit< tt) (down_pos e) h)

plus_test : (m : ℕ) (e : ℤ) → leb (m * up e * 2) (4294967293 * down e) ≡ leb (near m e) 2147483646
unfolding near
plus_test m e =
    leb-leb (m * up e * 2) (4294967293 * down e) (near m e) 2147483646
    (λ h. closest_mono (m * up e) (down e) 4294967293 2 (down_pos e) (lit< tt) h)
    (λ h. up_from 2147483646 (m * up e) (down e) (down_pos e) h)

test_minus : (m : ℕ) (e : ℤ) → (lt Low (fin true m e) && le (fin true m e) High) ≡ ltb (m * up e * 2) (4294967295 * down e)
unfolding lt le
test_minus m e =
    let p = down_pos e in
    rw (lt-ltb 0 (m * up e * 2 + 4294967293 * down e) (omega arith)) (and-true (ltb (m * up e * 2) (4294967295 * down e)))

test_plus : (m : ℕ) (e : ℤ) → (lt Low (fin false m e) && le (fin false m e) High) ≡ leb (m * up e * 2) (4294967293 * down e)
unfolding lt le eq
test_plus m e =
    let p = down_pos e in
    rw (lt-ltb 0 (4294967295 * down e + m * up e * 2) (omega arith)) (or_eq (m * up e * 2) (4294967293 * down e))

test : (x : Float) → (lt Low x && le x High) ≡ given x
unfolding lt le eq given nearest_whole
test nan = refl
test (inf true) = refl
test (inf false) = refl
test (fin true m e) = test_minus m e ∙ minus_test m e ∙ sym (given_is true m e ∙ allowed_minus (near m e))
test (fin false m e) = test_plus m e ∙ plus_test m e ∙ sym (given_is false m e)

-- ---- the rank
unrank-plus : (n : ℕ) → unrank (2147483648 + n) ≡ pos n
unrank-plus n = rw (le-ltb (2147483648 + n) 2147483648 (omega arith)) (let d : 2147483648 + n - 2147483648 ≡ n = omega arith in ap pos d)

unrank_minus : (n : ℕ) → n ≤ 2147483647 → unrank (2147483648 - n) ≡ signed true n
unrank_minus zero k = refl
unrank_minus (suc n) k =
    let d : 2147483648 - suc (2147483648 - suc n) ≡ n = omega arith in
    rw (lt-ltb (2147483648 - suc n) 2147483648 (omega arith)) (ap negsuc d)

-- how large the nearest size of a float that is given may be
bound : Bool → ℕ
bound true = 2147483647
bound false = 2147483646

size_of : (s : Bool) (m : ℕ) (e : ℤ) → given (fin s m e) ≡ true → near m e ≤ bound s
unfolding bound
size_of true m e g = leb-true (near m e) 2147483647 (sym (allowed_minus (near m e)) ∙ sym (given_is true m e) ∙ g)
size_of false m e g = leb-true (near m e) 2147483646 (sym (given_is false m e) ∙ g)

abbrev rank_bits : Float → ℕ
rank_bits x = to_bits binary64 (add binary64 x Large) % 4294967296

rank_of : (s : Bool) (n : ℕ) → n ≤ bound s → unrank ((1074 * 2 ^ 52 + off s 6755401588539392 n) % 4294967296) ≡ signed s n
unfolding bound
rank_of true n h = let d : (1074 * 2 ^ 52 + (6755401588539392 - n)) % 4294967296 ≡ 2147483648 - n = omega arith in ap unrank d ∙ unrank_minus n h
rank_of false n h = let d : (1074 * 2 ^ 52 + (6755401588539392 + n)) % 4294967296 ≡ 2147483648 + n = omega arith in ap unrank d ∙ unrank-plus n

fin_rank : (s : Bool) (m : ℕ) (e : ℤ) (n : ℕ) → closest (m * up e) (down e) ≡ n → n ≤ 2147483647 → rank_bits (fin s m e) ≡ (1074 * 2 ^ 52 + off s 6755401588539392 n) % 4294967296
fin_rank s m e n g h = ap (λ (x : ℕ). x % 4294967296) (add_bits s m e 3145729 31 n 3377700794269696 refl g (omega arith) (omega arith))

bound_le : (s : Bool) → bound s ≤ 2147483647
unfolding bound
bound_le true = lit≤ tt
bound_le false = lit≤ tt

rank_law : (x : Float) → given x ≡ true → some (unrank (rank_bits x)) ≡ nearest_whole x
unfolding given nearest_whole near
rank_law nan g = absurd (false≢true g)
rank_law (inf s) g = absurd (false≢true g)
rank_law (fin s m e) g =
    let h = size_of s m e g in
    ap some (ap unrank (fin_rank s m e (near m e) refl (le_trans h (bound_le s))) ∙ rank_of s (near m e) h)

-- ---- the exits of the code
module _ (x : Float) where
  pub within_exit : (lt (neg (of_bits binary64 4746794007246405632)) x && le x (of_bits binary64 4746794007242211328)) ≡ given x
  within_exit = ap (λ (l : Float). lt l x && le x (of_bits binary64 4746794007242211328)) low_is ∙ ap (λ (h : Float). lt Low x && le x h) high_is ∙ test x

  pub number_exit : is_nan x ≡ false → T (not (is_nan (add binary64 x (of_bits binary64 4843621401384452096))))
  number_exit h = rw (ap (λ (l : Float). is_nan (add binary64 x l)) large_is ∙ add_number x h false 3145729 (pos 31)) tt

  pub rank_exit : given x ≡ true → some (unrank (to_bits binary64 (add binary64 x (of_bits binary64 4843621401384452096)) % 4294967296)) ≡ nearest_whole x
  rank_exit g = ap (λ (l : Float). some (unrank (to_bits binary64 (add binary64 x l) % 4294967296))) large_is ∙ rank_law x g
