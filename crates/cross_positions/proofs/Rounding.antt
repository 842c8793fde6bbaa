-- The nearest whole number from the bits of a float.
use mathlib.Core.Path.{◌≡◌, refl, sym, ap, ◌∙◌, subst}
use Prim.Native.Nat.{ℕ, zero, suc, ◌+◌, ◌-◌, ◌*◌, ◌/◌, ◌%◌, ◌^◌, ◌≤◌, ◌<◌, compare, Ordering, zero-le}
use native.Mathlib.Nat.{le_trans, le_antisymm, le_of_eq, le_of_lt, mul_assoc, mul-le-mul_right, mul-one}
use native.Mathlib.Omega.{arith}
use mathlib.Core.Bool.{Bool, true, false, not, cond}
use mathlib.Core.Option.{Option, none, some}
use lib.Dec.{T, is_le, compare_is_eq, leb, ltb, eqb, leb→le, nleb→lt, eqb→eq, eqb_refl, lit<, lit≤}
use lib.IntN.{ℤ, pos, negsuc}
use lib.Pow.{pow-add, pow_pos, pow_mono, shl_lt}
use lib.Arith.{lt_of_le-ne}
use lib.Ieee.{Float, nan, inf, fin, binary64, up, down, odd, of_fields, of_bits, to_bits, fits, is_nan, of_int}
use lib.Ieee.Nearest.{closest, closest_mono, closest_same}
use lib.Ieee.Bits.{of_bits-to_bits}
use lib.Ieee.Exact.{HasValue, odd_sign}
use borrow.Author.Tests.{lt-ltb, le-ltb, lt-leb, le-leb, eqb-true, ltb-true, ltb-false}
use Rattle.std.proofs.Common.{Some, None}
use Rattle.cross_ranks.specs.Ranks.{unrank}
use Rattle.cross_positions.specs.Positions.{thousand, signed, nearest_whole, in_range}
use Rattle.cross_positions.specs.Found.{found_of}
use Rattle.cross_positions.specs.Fields.{size_of}

-- a whole number, or a float's nearest, that may be given
abbrev within : ℤ → Option ℤ
within z = in_range (some z)

abbrev whole : Float → Option ℤ
whole x = in_range (nearest_whole x)

-- ---- what `compare` says
abbrev pub Cmp : Ordering → ℕ → ℕ → Type 0
Cmp Ordering.lt a b = a < b
Cmp Ordering.eq a b = a ≡ b
Cmp Ordering.gt a b = b < a

pub cmp : (a b : ℕ) → Cmp (compare a b) a b
cmp a b = go (compare a b) (leb→le a b) (nleb→lt a b) (eqb→eq a b) (λ (e : a ≡ b). subst (λ (x : ℕ). T (eqb a x)) e (eqb_refl a))
  where
    go : (o : Ordering) → (T (is_le o) → a ≤ b) → (T (not (is_le o)) → b < a) → (T (compare_is_eq o) → a ≡ b) → (a ≡ b → T (compare_is_eq o)) → Cmp o a b
    go Ordering.lt h k e n = lt_of_le-ne (h tt) n
    go Ordering.eq h k e n = e tt
    go Ordering.gt h k e n = k tt

pub nan_bad : (x : Float) (b : Bool) → b ≡ is_nan x → b ≡ true → found_of None ≡ in_range (nearest_whole x)
unfolding nearest_whole is_nan
nan_bad nan b e f = refl
nan_bad (inf s) b e f = absurd (subst T (sym f ∙ e) tt)
nan_bad (fin s m k) b e f = absurd (subst T (sym f ∙ e) tt)

pub thousand_is : of_bits binary64 4652007308841189376 ≡ thousand
unfolding of_bits of_int
thousand_is = refl

-- ---- of a float with a value
whole_of_value : (x : Float) (s : Bool) (a c : ℕ) → 0 < c → HasValue x s a c → whole x ≡ within (signed s (closest a c))
unfolding nearest_whole
whole_of_value nan s a c p v = absurd v
whole_of_value (inf t) s a c p v = absurd v
whole_of_value (fin t m e) s a c p v = ap (λ (b : Bool). within (signed b (closest (m * up e) (down e)))) v.0 ∙ ap (λ (n : ℕ). within (signed s n)) (closest_same (m * up e) (down e) a c (down_pos e) p v.1)
  where
    down_pos : (e : ℤ) → 0 < down e
    down_pos (pos k) = lit< tt
    down_pos (negsuc k) = pow_pos (suc k)

-- ---- the size from the fields
too_big : (s : Bool) (n : ℕ) → 2147483648 ≤ n → within (signed s n) ≡ none
too_big true zero h = absurd (omega arith)
too_big true (suc n) h = rw (lt-leb n 2147483646 (omega arith))
too_big false n h = rw (lt-leb n 2147483646 (omega arith))

-- below a half
small : (q k : ℕ) → q < 2 ^ 53 → k ≤ 1020 → closest (q * 2 ^ k) (2 ^ 1074) ≡ 0
small q k h l =
    let a : q * 2 ^ k < 2 ^ (53 + k) = shl_lt 53 k h in
    let b : 2 ^ (53 + k) ≤ 2 ^ 1073 = pow_mono {i = 53 + k} {j = 1073} (omega arith) in
    let c : q * 2 ^ k ≤ 2 ^ 1073 = le_trans (le_of_lt a) b in
    le_antisymm (closest_mono (q * 2 ^ k) (2 ^ 1074) 1 2 (lit< tt) (lit< tt) (mul-le-mul_right 2 c)) zero-le

-- from 2 ^ 31 on
large : (q k : ℕ) → 2 ^ 52 ≤ q → 1053 ≤ k → 2147483648 ≤ closest (q * 2 ^ k) (2 ^ 1074)
large q k h l =
    let a : 2 ^ 52 * 2 ^ k ≤ q * 2 ^ k = mul-le-mul_right (2 ^ k) h in
    let b : 2 ^ 1105 ≤ 2 ^ (52 + k) = pow_mono {i = 1105} {j = 52 + k} (omega arith) in
    let c : 2 ^ (52 + k) ≡ 2 ^ 52 * 2 ^ k = pow-add 2 52 k in
    closest_mono 2147483648 1 (q * 2 ^ k) (2 ^ 1074) (lit< tt) (lit< tt) (le_trans (le_trans b (le_of_eq c)) (le_trans a (le_of_eq (sym (mul-one (q * 2 ^ k))))))

-- in between
middle : (q k d : ℕ) → k + d ≡ 1074 → closest (q * 2 ^ k) (2 ^ 1074) ≡ closest q (2 ^ d)
middle q k d e =
    closest_same (q * 2 ^ k) (2 ^ 1074) q (2 ^ d) (lit< tt) (pow_pos d)
    (mul_assoc q (2 ^ k) (2 ^ d) ∙ ap (λ (n : ℕ). q * n) (sym (pow-add 2 k d) ∙ ap (λ (n : ℕ). 2 ^ n) e))

-- the three cases of `size_of`
size_small : (x t : ℕ) → x < 1022 → size_of x t ≡ 0
unfolding size_of
size_small x t h = rw (lt-ltb x 1022 h)

size_large : (x t : ℕ) → 1053 < x → size_of x t ≡ 2147483648
unfolding size_of
size_large x t h = rw (le-ltb x 1022 (omega arith), lt-ltb 1053 x h)

size_middle : (x t : ℕ) → 1022 ≤ x → x ≤ 1053 → size_of x t ≡ closest (4503599627370496 + t) (2 ^ (1075 - x))
unfolding size_of
size_middle x t h k = rw (le-ltb x 1022 h, le-ltb 1053 x k)

-- a value of digits q at the field's weight k is seen as `size_of` has it
seen : (s : Bool) (k t : ℕ) → t < 2 ^ 52 → within (signed s (closest ((4503599627370496 + t) * 2 ^ k) (2 ^ 1074))) ≡ within (signed s (size_of (suc k) t))
seen s k t h = go (ltb (suc k) 1022) refl (ltb 1053 (suc k)) refl
  where
    go : (a : Bool) → ltb (suc k) 1022 ≡ a → (b : Bool) → ltb 1053 (suc k) ≡ b → within (signed s (closest ((4503599627370496 + t) * 2 ^ k) (2 ^ 1074))) ≡ within (signed s (size_of (suc k) t))
    go true e b f =
        let l : suc k < 1022 = ltb-true _ _ e in
        ap (λ (n : ℕ). within (signed s n)) (small (4503599627370496 + t) k (omega arith) (omega arith) ∙ sym (size_small (suc k) t l))
    go false e true f =
        let l : 1053 < suc k = ltb-true _ _ f in
        too_big s _ (large (4503599627370496 + t) k (omega arith) (omega arith)) ∙ sym (ap (λ (n : ℕ). within (signed s n)) (size_large (suc k) t l) ∙ too_big s 2147483648 (lit≤ tt))
    go false e false f =
        let l : 1022 ≤ suc k = ltb-false _ _ e in
        let u : suc k ≤ 1053 = ltb-false _ _ f in
        ap (λ (n : ℕ). within (signed s n)) (middle (4503599627370496 + t) k (1075 - suc k) (omega arith) ∙ sym (size_middle (suc k) t l u))

edge : (s b : Bool) → whole (cond b (inf s) nan) ≡ none
unfolding nearest_whole
edge s true = refl
edge s false = refl

fields-whole : (s : Bool) (x t : ℕ) → x < 2048 → t < 2 ^ 52 → whole (of_fields binary64 s x t) ≡ within (signed s (size_of x t))
unfolding of_fields
fields-whole s zero t hx ht =
    whole_of_value (odd 53 s t 0 1074) s (t * 2 ^ 0) (2 ^ 1074) (lit< tt) (odd_sign 53 s t 0 1074)
    ∙ ap (λ (n : ℕ). within (signed s n)) (small t 0 (omega arith) (lit≤ tt) ∙ sym (size_small 0 t (lit< tt)))
fields-whole s (suc k) t hx ht = go (eqb (suc k) 2047) refl (eqb t 0)
  where
    go : (a : Bool) → eqb (suc k) 2047 ≡ a → (b : Bool) → whole (cond a (cond b (inf s) nan) (odd 53 s (4503599627370496 + t) k 1074)) ≡ within (signed s (size_of (suc k) t))
    go false e b =
        whole_of_value (odd 53 s (4503599627370496 + t) k 1074) s ((4503599627370496 + t) * 2 ^ k) (2 ^ 1074) (lit< tt) (odd_sign 53 s (4503599627370496 + t) k 1074)
        ∙ seen s k t ht
    go true e b =
        let l : suc k ≡ 2047 = eqb-true _ _ e in
        edge s b ∙ sym (ap (λ (n : ℕ). within (signed s n)) (size_large (suc k) t (omega arith)) ∙ too_big s 2147483648 (lit≤ tt))

split : (b : ℕ) → whole (of_bits binary64 b) ≡ whole (of_fields binary64 (leb 9223372036854775808 b) (b % 9223372036854775808 / 4503599627370496) (b % 4503599627370496))
unfolding of_bits
split b = refl

-- a float that the format holds, from its bits
bits-whole : (x : Float) → T (fits binary64 x) → let b = to_bits binary64 x in whole x ≡ within (signed (leb 9223372036854775808 b) (size_of (b % 9223372036854775808 / 4503599627370496) (b % 4503599627370496)))
bits-whole x h =
    let b = to_bits binary64 x in
    ap whole (sym (of_bits-to_bits binary64 x h))
    ∙ split b
    ∙ fields-whole (leb 9223372036854775808 b) (b % 9223372036854775808 / 4503599627370496) (b % 4503599627370496) (omega arith) (omega arith)

-- the exits of `rounded`, with b for the bits and n for the size
abbrev size_bits : ℕ → ℕ
size_bits b = size_of (b % 9223372036854775808 / 4503599627370496) (b % 4503599627370496)

module _ (x : Float) (h : fits binary64 x ≡ true) (n : ℕ) (e : n ≡ size_bits (to_bits binary64 x)) where
  as_seen : (s : Bool) → leb 9223372036854775808 (to_bits binary64 x) ≡ s → within (signed s n) ≡ whole x
  as_seen s f = sym (bits-whole x (subst T (sym h) tt) ∙ ap (λ (t : Bool). within (signed t (size_bits (to_bits binary64 x)))) f ∙ ap (λ (m : ℕ). within (signed s m)) (sym e))

  pub plus_bad : to_bits binary64 x < 9223372036854775808 → 2147483646 < n → found_of None ≡ in_range (nearest_whole x)
  plus_bad u k =
      let w : within (pos n) ≡ none = rw (lt-leb n 2147483646 k) in
      sym w ∙ as_seen false (lt-leb _ _ u)

  pub plus-at : to_bits binary64 x < 9223372036854775808 → n ≤ 2147483646 → found_of (Some (2147483648 + n)) ≡ in_range (nearest_whole x)
  plus-at u k =
      let m : unrank (2147483648 + n) ≡ pos n = rw (le-ltb (2147483648 + n) 2147483648 (omega arith)) (let d : 2147483648 + n - 2147483648 ≡ n = omega arith in ap pos d) in
      let w : within (pos n) ≡ some (pos n) = rw (le-leb n 2147483646 k) in
      ap some m ∙ sym w ∙ as_seen false (lt-leb _ _ u)

  pub minus_bad : 9223372036854775808 ≤ to_bits binary64 x → 2147483648 ≤ n → found_of None ≡ in_range (nearest_whole x)
  minus_bad u k = sym (too_big true n k) ∙ as_seen true (le-leb _ _ u)

  pub minus_at : 9223372036854775808 ≤ to_bits binary64 x → n < 2147483648 → found_of (Some (2147483648 - n)) ≡ in_range (nearest_whole x)
  minus_at u k = minus n k ∙ as_seen true (le-leb _ _ u)
    where
      minus : (n : ℕ) → n < 2147483648 → found_of (Some (2147483648 - n)) ≡ within (signed true n)
      minus zero k = refl
      minus (suc n) k =
          let d : 2147483648 - suc (2147483648 - suc n) ≡ n = omega arith in
          let m : unrank (2147483648 - suc n) ≡ negsuc n = rw (lt-ltb (2147483648 - suc n) 2147483648 (omega arith)) (ap negsuc d) in
          ap some m ∙ sym (rw (le-leb n 2147483646 (omega arith)))
