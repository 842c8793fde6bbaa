-- The bits of a float added to a large even whole number: those of that number, and the nearest whole number more, or less.
use mathlib.Core.Path.{◌≡◌, refl, sym, ap, ◌∙◌, subst}
use Prim.Native.Nat.{ℕ, suc, ◌+◌, ◌-◌, ◌*◌, ◌/◌, ◌^◌, ◌≤◌, ◌<◌}
use lib.IntN.{ℤ, pos}
use native.Mathlib.Nat.{mul-one, le_trans, le_of_eq, le_antisymm, lt_of_lt_of_le, lt_of_le_of_lt, mul_assoc, mul_comm, mul_right_comm, mul-pos, mul-le-mul_right, mul-lt-mul_of_pos_right, mul-div_cancel, le-div_iff_mul-le, div-lt_iff_lt-mul}
use native.Mathlib.Omega.{arith}
use mathlib.Core.Bool.{Bool, true, false, cond}
use lib.Dec.{ltb, lit≤}
use lib.Pow.{pow-add, pow_pos, pow_mono, shl_lt}
use lib.Ieee.{Float, nan, inf, fin, binary64, up, down, size, units, round, sum, add, to_bits}
use lib.Ieee.Digits.{size-lt, size-le}
use lib.Ieee.Exact.{HasValue, units_val}
use lib.Ieee.Fits.{core, round_is, down_pos}
use lib.Ieee.Nearest.{closest, closest_same}
use borrow.Author.Tests.{lt-ltb, ltb-true, ltb-false}
use Rattle.cross_quick.proofs.Closest.{closest_more, closest_less, whole_part}

-- ---- how many digits
size_is : (n j : ℕ) → 2 ^ j ≤ n → n < 2 ^ suc j → size n ≡ suc j
size_is n j h k = le_antisymm (size-le n (suc j) k) (go (ltb j (size n)) refl)
  where
    go : (t : Bool) → ltb j (size n) ≡ t → j < size n
    go true e = ltb-true j (size n) e
    go false e = absurd (no n (2 ^ size n) (2 ^ j) (size-lt n) (pow_mono (ltb-false j (size n) e)) h)
      where
        no : (a b c : ℕ) → a < b → b ≤ c → c ≤ a → ⊥
        no a b c p q r = omega arith

-- a number of 53 digits, and l more
module _ (q l : ℕ) (h : 2 ^ 52 ≤ q) (k : q < 2 ^ 53) where
  shifted : size (q * 2 ^ l) ≡ suc (52 + l)
  shifted = size_is (q * 2 ^ l) (52 + l) (le_trans (le_of_eq (pow-add 2 52 l)) (mul-le-mul_right (2 ^ l) h)) (lt_of_lt_of_le (shl_lt 53 l k) (le_of_eq (ap (λ (x : ℕ). 2 ^ x) same)))
    where
      same : 53 + l ≡ suc (52 + l)
      same = omega arith

-- ---- rounding: the last digit that is kept counts ones
module _ (n c : ℕ) (p : 0 < c) (h : 2 ^ 52 * c ≤ n) (k : n < 2 ^ 53 * c) where
  quotient : (l : ℕ) → size (n * 2 ^ l / c) ≡ suc (52 + l)
  quotient l = size_is (n * 2 ^ l / c) (52 + l)
      ((le-div_iff_mul-le p).1 (le_trans (le_of_eq (ap (λ (x : ℕ). x * c) (pow-add 2 52 l) ∙ mul_right_comm (2 ^ 52) (2 ^ l) c)) (mul-le-mul_right (2 ^ l) h)))
      ((div-lt_iff_lt-mul p).1 (lt_of_lt_of_le (mul-lt-mul_of_pos_right k (pow_pos l)) (le_of_eq (mul_right_comm (2 ^ 53) c (2 ^ l) ∙ ap (λ (x : ℕ). x * c) (sym (pow-add 2 53 l) ∙ ap (λ (x : ℕ). 2 ^ x) (same l))))))
    where
      same : (l : ℕ) → 53 + l ≡ suc (52 + l)
      same l = omega arith

  rounds : round binary64 false n c ≡ units binary64 false (closest n c) 1074
  rounds =
      round_is binary64 false n c
      ∙ ap (λ (z : ℕ). core binary64 false (n * 2 ^ 1074) c (z - 53)) (quotient 1074)
      ∙ ap (λ (z : ℕ). units binary64 false z 1074) (closest_same (n * 2 ^ 1074) (c * 2 ^ 1074) n c (mul-pos p (pow_pos 1074)) p (mul_assoc n (2 ^ 1074) c ∙ ap (λ (z : ℕ). n * z) (mul_comm (2 ^ 1074) c)))

-- ---- bits of a whole number of 53 digits
abbrev at : Bool → ℕ → ℕ
at b n = cond b (2 ^ 52 * 2048) 0 + (size n - 53) * 2 ^ 52 + n / 2 ^ (size n - 53)

bits_of : (x : Float) (q : ℕ) → HasValue x false (q * 2 ^ 1074) (2 ^ 1074) → 2 ^ 52 ≤ q → q < 2 ^ 53 → to_bits binary64 x ≡ 1074 * 2 ^ 52 + q
unfolding to_bits
bits_of nan q v h k = absurd v
bits_of (inf t) q v h k = absurd v
bits_of (fin t m e) q v h k =
    let n : m * up e * 2 ^ 1074 / down e ≡ q * 2 ^ 1074 = ap (λ (x : ℕ). x / down e) v.1 ∙ mul-div_cancel (q * 2 ^ 1074) (down_pos e) in
    ap (λ (b : Bool). at b (m * up e * 2 ^ 1074 / down e)) v.0
    ∙ ap (λ (x : ℕ). at false x) n
    ∙ ap (λ (z : ℕ). 0 + (z - 53) * 2 ^ 52 + q * 2 ^ 1074 / 2 ^ (z - 53)) (shifted q 1074 h k)
    ∙ ap (λ (x : ℕ). 0 + 1074 * 2 ^ 52 + x) (mul-div_cancel q (pow_pos 1074))

-- ---- together
module _ (n c q : ℕ) (p : 0 < c) (h : 2 ^ 52 * c ≤ n) (e : closest n c ≡ q) (k : q < 2 ^ 53) where
  below : n < 2 ^ 53 * c
  below = (div-lt_iff_lt-mul p).0 (lt_of_le_of_lt (le_trans (whole_part n c) (le_of_eq e)) k)

  value : HasValue (round binary64 false n c) false (q * 2 ^ 1074) (2 ^ 1074)
  value =
      subst (λ (x : Float). HasValue x false (q * 2 ^ 1074) (2 ^ 1074)) (sym (rounds n c p h below ∙ ap (λ (z : ℕ). units binary64 false z 1074) e))
      (units_val binary64 false q 1074 (lt_of_lt_of_le (shl_lt 53 1074 k) (pow_mono {i = 1127} {j = 2098} (lit≤ tt))))

  rounded_bits : to_bits binary64 (round binary64 false n c) ≡ 1074 * 2 ^ 52 + q
  rounded_bits = bits_of (round binary64 false n c) q value (le_trans ((le-div_iff_mul-le p).1 h) (le_trans (whole_part n c) (le_of_eq e))) k

-- ---- a sum with an even whole number 2 * v that has 53 digits, and still has them with n more or less
abbrev pub off : Bool → ℕ → ℕ → ℕ
off false w n = w + n
off true w n = w - n

abbrev summed : Bool → ℕ → ℕ → ℕ
summed false a b = a + b
summed true a b = b - a

module _ (a c n v : ℕ) (p : 0 < c) (e : closest a c ≡ n) (h : 2 ^ 52 + n < 2 * v) (k : 2 * v + n < 2 ^ 53) where
  size_of : a < (n + 1) * c
  size_of =
      let l : a / c ≤ n = le_trans (whole_part a c) (le_of_eq e) in
      let m : a / c < n + 1 = omega arith in
      (div-lt_iff_lt-mul p).0 m

  room : (n + 1 + 2 ^ 52) * c ≤ 2 * v * c
  room = let l : n + 1 + 2 ^ 52 ≤ 2 * v = omega arith in mul-le-mul_right c l

  sum_is : (s : Bool) → sum binary64 s a false (2 * v * c) c ≡ round binary64 false (summed s a (2 * v * c)) c
  unfolding sum
  sum_is false = refl
  sum_is true = let l : a < 2 * v * c = omega (arith, size_of, room) in rw (lt-ltb a (2 * v * c) l)

  large : (s : Bool) → 2 ^ 52 * c ≤ summed s a (2 * v * c)
  large false = omega (arith, room)
  large true = omega (arith, size_of, room)

  nearest_is : (s : Bool) → closest (summed s a (2 * v * c)) c ≡ off s (2 * v) n
  nearest_is false = let s : a + 2 * v * c ≡ 2 * v * c + a = omega arith in ap (λ (x : ℕ). closest x c) s ∙ closest_more v a c p ∙ ap (λ (x : ℕ). 2 * v + x) e
  nearest_is true = let l : a ≤ 2 * v * c = omega (arith, size_of, room) in closest_less v a c p l ∙ ap (λ (x : ℕ). 2 * v - x) e

  small : (s : Bool) → off s (2 * v) n < 2 ^ 53
  small false = k
  small true = omega arith

  sum_bits : (s : Bool) → to_bits binary64 (sum binary64 s a false (2 * v * c) c) ≡ 1074 * 2 ^ 52 + off s (2 * v) n
  sum_bits s = ap (λ (x : Float). to_bits binary64 x) (sum_is s) ∙ rounded_bits (summed s a (2 * v * c)) c (off s (2 * v) n) p (large s) (nearest_is s) (small s)

add_is : (s : Bool) (m : ℕ) (e : ℤ) (w d : ℕ) → add binary64 (fin s m e) (fin false w (pos d)) ≡ sum binary64 s (m * up e) false (w * 2 ^ d * down e) (down e)
unfolding add
add_is s m e w d =
    ap (λ (x : ℕ). sum binary64 s x false (w * 2 ^ d * down e) (down e * 1)) (mul-one (m * up e))
    ∙ ap (λ (x : ℕ). sum binary64 s (m * up e) false (w * 2 ^ d * down e) x) (mul-one (down e))

-- a finite float with the sign s and the nearest size n, added to a float whose value is 2 * v
module _ (s : Bool) (m : ℕ) (e : ℤ) (w d n v : ℕ) (f : w * 2 ^ d ≡ 2 * v) (g : closest (m * up e) (down e) ≡ n) (h : 2 ^ 52 + n < 2 * v) (k : 2 * v + n < 2 ^ 53) where
  as_sum : add binary64 (fin s m e) (fin false w (pos d)) ≡ sum binary64 s (m * up e) false (2 * v * down e) (down e)
  as_sum = add_is s m e w d ∙ ap (λ (x : ℕ). sum binary64 s (m * up e) false (x * down e) (down e)) f

  pub add_bits : to_bits binary64 (add binary64 (fin s m e) (fin false w (pos d))) ≡ 1074 * 2 ^ 52 + off s (2 * v) n
  add_bits = ap (λ (x : Float). to_bits binary64 x) as_sum ∙ sum_bits (m * up e) (down e) n v (down_pos e) g h k s
