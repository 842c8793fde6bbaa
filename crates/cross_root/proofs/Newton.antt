-- The arithmetic of Newton's iteration for a square root: the first guess is at least the root, and so is the guess after a step from any
-- guess above 0.
use mathlib.Core.Path.{◌≡◌, refl, sym, ap, subst, ◌∙◌}
use Prim.Native.Nat.{ℕ, zero, suc, ◌+◌, ◌*◌, ◌/◌, ◌%◌, ◌^◌, ◌≤◌, ◌<◌}
use native.Mathlib.Nat.{le_trans, le_of_eq, le_of_lt, lt_of_lt_of_le, lt-suc_self, zero-lt-suc, lt_of_not-le, le_dest, le_intro, add_comm, add_assoc, add_left_comm, mul_comm, mul-add, add-mul, two-mul, mul-le-mul, mul-le-mul_right, div-lt_iff_lt-mul, add-suc}
use native.Mathlib.Decide.{dec_le}
use native.Mathlib.Omega.{arith}
use lib.Arith.{add-le_cancel_left}
use lib.Pow.{pow-add, pow_pos, pow_mono}
use native.Mathlib.Numerals.{add-one}

-- Twice a product is at most the two squares, which is what makes the mean of two numbers at least the root of their product

-- For b written a + d: (a + d) * (a + d) + a * a is a * (a + d) twice and d * d more, which `simp` proves by sorting the sums and products of both sides.
squares_regrouped : (a d : ℕ) → a * (a + d) + a * (a + d) + d * d ≡ (a + d) * (a + d) + a * a
squares_regrouped a d = simp (mul-add, add-mul, mul_comm, add_assoc, add_comm, add_left_comm) refl

products_le_squares_at : (a d : ℕ) → a * (a + d) + a * (a + d) ≤ (a + d) * (a + d) + a * a
products_le_squares_at a d = le_intro (a * (a + d) + a * (a + d)) (d * d) (squares_regrouped a d)

products_le_squares_of_le : (a b : ℕ) → a ≤ b → a * b + a * b ≤ b * b + a * a
products_le_squares_of_le a b h = subst (λ (x : ℕ). a * x + a * x ≤ x * x + a * a) (le_dest h).1 (products_le_squares_at a (le_dest h).0)

products_le_squares : (a b : ℕ) → a * b + a * b ≤ b * b + a * a
products_le_squares a b = either (dec_le a b)
  where
    either : Dec (a ≤ b) → a * b + a * b ≤ b * b + a * a
    either (yes h) = products_le_squares_of_le a b h
    either (no f) =
        le_trans (le_of_eq (ap (λ (z : ℕ). z + z) (mul_comm a b)))
        (le_trans (products_le_squares_of_le b a (le_of_lt (lt_of_not-le f))) (le_of_eq (add_comm (a * a) (b * b))))

mul_two : (m : ℕ) → m * 2 ≡ m + m
mul_two m = mul_comm m 2 ∙ two-mul m

-- With q for n / r and m for one more than the new guess: n is below the next multiple of r, (q + 1) * r, and r + q is below m twice.
-- So r * r + (q + 1) * r, which is (r + q + 1) * r, is at most m * r twice, and so at most r * r + m * m: n < (q + 1) * r ≤ m * m.
above : (n r q m : ℕ) → n < suc q * r → r + q < m + m → n < m * m
above n r q m Below-next below-twice =
    lt_of_lt_of_le Below-next
    (add-le_cancel_left (r * r)
    (le_trans (le_of_eq (sym (add-mul r (suc q) r) ∙ ap (λ (x : ℕ). x * r) (add-suc r q)))
    (le_trans (mul-le-mul_right r below-twice)
    (le_trans (le_of_eq (add-mul m m r)) (products_le_squares m r)))))

-- A step from any guess r above 0: one more than the new guess, squared, is above n. So the new guess is at least the root, whether or not r was.
pub newton_above : (n r : ℕ) → zero < r → n < ((r + n / r) / 2 + 1) * ((r + n / r) / 2 + 1)
newton_above n r hr =
    subst (λ (x : ℕ). n < x * x) (sym (add-one ((r + n / r) / 2)))
    (above n r (n / r) (suc ((r + n / r) / 2))
    ((div-lt_iff_lt-mul hr).0 (lt-suc_self (n / r)))
    (lt_of_lt_of_le ((div-lt_iff_lt-mul (zero-lt-suc 1)).0 (lt-suc_self ((r + n / r) / 2))) (le_of_eq (mul_two (suc ((r + n / r) / 2))))))

-- ---- the first guess, a power of two, and the next

pub begins : (n k : ℕ) → n < 2 * 2 ^ k → k < 64 → (r : ℕ) → r ≡ 1 * 2 ^ (k / 2 + 1) % 18446744073709551616 → (0 < r) × (r ≤ 4294967296) × (n < (r + 1) * (r + 1))
begins n k below few r is =
    let e = k / 2 + 1 in
    let small : 2 ^ e ≤ 2 ^ 32 = pow_mono {i = e} {j = 32} (omega arith) in
    let power : r ≡ 2 ^ e = omega (arith, is, small) in
    let twice : 2 ^ (k + 1) ≤ 2 ^ (e + e) = pow_mono {i = k + 1} {j = e + e} (omega arith) in
    let square : n < 2 ^ e * 2 ^ e = omega (arith, below, twice, pow-add 2 k 1, pow-add 2 e e) in
    rw power (pow_pos e, small, lt_of_lt_of_le square (mul-le-mul (omega arith) (omega arith)))

above_0 : (n m : ℕ) → (n ≡ 0 → ⊥) → n < (m + 1) * (m + 1) → 0 < m
above_0 n zero some h = absurd (some (omega arith))
above_0 n (suc m) some h = zero-lt-suc m

pub goes_on : (n r q : ℕ) → (n ≡ 0 → ⊥) → q ≡ n / r → q < r → r ≤ 4294967296 → (0 < (r + q) / 2) × ((r + q) / 2 ≤ 4294967296) × (n < ((r + q) / 2 + 1) * ((r + q) / 2 + 1))
goes_on n r q some is less few =
    let h : n < ((r + q) / 2 + 1) * ((r + q) / 2 + 1) = rw is (newton_above n r (omega (arith, less))) in
    (above_0 n ((r + q) / 2) some h, omega (arith, less, few), h)
