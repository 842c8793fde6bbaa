-- The nearest whole number of a sum or a difference with an even whole number, and where it stands against a bound.
use mathlib.Core.Path.{◌≡◌, refl, sym, ap, ◌∙◌, subst}
use mathlib.Core.Logic.{inl, inr}
use Prim.Native.Nat.{ℕ, zero, suc, ◌+◌, ◌-◌, ◌*◌, ◌/◌, ◌%◌, ◌≤◌, ◌<◌, compare, Ordering}
use native.Mathlib.Nat.{le_trans, le_of_eq, mod-lt, mod-eq_of_lt, div-eq_of_lt, add-zero, mul-add-div_right, mul-add-mod_self_right, div-add-mod', le-div_iff_mul-le, div-lt_iff_lt-mul, sub-add_cancel, add-mul, le_of_mul-le-mul_right, lt_of_mul-lt-mul_right, eq-or-lt_of_le}
use native.Mathlib.Omega.{arith}
use lib.Ieee.{nearest}
use lib.Ieee.Fits.{nearest-le}
use lib.Ieee.Nearest.{closest, nearest-ge}
use Rattle.cross_positions.proofs.Rounding.{Cmp, cmp}

-- ---- from a quotient and a remainder
parts : (q r c : ℕ) → r < c → closest (q * c + r) c ≡ nearest q (compare (r * 2) c)
parts q r c h =
    let p : 0 < c = omega arith in
    let d : (q * c + r) / c ≡ q = mul-add-div_right p q r ∙ (let z : r / c ≡ 0 = div-eq_of_lt h in omega arith) in
    let m : (q * c + r) % c ≡ r = mul-add-mod_self_right q c r ∙ mod-eq_of_lt h in
    ap (λ (x : ℕ). nearest x (compare ((q * c + r) % c * 2) c)) d ∙ ap (λ (x : ℕ). nearest q (compare (x * 2) c)) m

-- ---- an even number more
more : (v q : ℕ) (o : Ordering) → nearest (2 * v + q) o ≡ 2 * v + nearest q o
more v q Ordering.lt = refl
more v q Ordering.eq = omega arith
more v q Ordering.gt = omega arith

pub closest_more : (v a c : ℕ) → 0 < c → closest (2 * v * c + a) c ≡ 2 * v + closest a c
closest_more v a c p =
    ap (λ (x : ℕ). nearest x (compare ((2 * v * c + a) % c * 2) c)) (mul-add-div_right p (2 * v) a)
    ∙ ap (λ (x : ℕ). nearest (2 * v + a / c) (compare (x * 2) c)) (mul-add-mod_self_right (2 * v) c a)
    ∙ more v (a / c) (compare (a % c * 2) c)

-- ---- an even number less
-- the remainder r is above 0, and so is what is left of c
mirror : (v q r c : ℕ) → 0 < r → r < c → q + 1 ≤ 2 * v → (o p : Ordering) → Cmp o (r * 2) c → Cmp p ((c - r) * 2) c → nearest (2 * v - (q + 1)) p ≡ 2 * v - nearest q o
mirror v q r c h l k Ordering.lt Ordering.lt x y = absurd (omega arith)
mirror v q r c h l k Ordering.lt Ordering.eq x y = absurd (omega arith)
mirror v q r c h l k Ordering.lt Ordering.gt x y = omega arith
mirror v q r c h l k Ordering.eq Ordering.lt x y = absurd (omega arith)
mirror v q r c h l k Ordering.eq Ordering.eq x y = omega arith
mirror v q r c h l k Ordering.eq Ordering.gt x y = absurd (omega arith)
mirror v q r c h l k Ordering.gt Ordering.lt x y = omega arith
mirror v q r c h l k Ordering.gt Ordering.eq x y = absurd (omega arith)
mirror v q r c h l k Ordering.gt Ordering.gt x y = absurd (omega arith)

none_left : (q c : ℕ) → 0 < c → nearest q (compare (0 * 2) c) ≡ q
none_left q c p = go (compare 0 c) (cmp 0 c)
  where
    go : (o : Ordering) → Cmp o 0 c → nearest q o ≡ q
    go Ordering.lt h = refl
    go Ordering.eq h = absurd (omega arith)
    go Ordering.gt h = absurd (omega arith)

back : (w n c : ℕ) → n ≤ w → w * c ≡ (w - n) * c + n * c
back w n c h = ap (λ (x : ℕ). x * c) (sym (sub-add_cancel h)) ∙ add-mul (w - n) n c

less-at : (v q r c : ℕ) → r < c → q * c + r ≤ 2 * v * c → closest (2 * v * c - (q * c + r)) c ≡ 2 * v - nearest q (compare (r * 2) c)
less-at v q zero c l h =
    let p : 0 < c = omega arith in
    let k : q ≤ 2 * v = le_of_mul-le-mul_right (le_trans (le_of_eq (sym (add-zero (q * c)))) h) p in
    let e : 2 * v * c - (q * c + 0) ≡ (2 * v - q) * c + 0 = difference (2 * v * c) ((2 * v - q) * c) (q * c) (back (2 * v) q c k) in
    ap (λ (x : ℕ). closest x c) e ∙ parts (2 * v - q) 0 c p ∙ none_left (2 * v - q) c p ∙ ap (λ (x : ℕ). 2 * v - x) (sym (none_left q c p))
  where
    difference : (a b d : ℕ) → a ≡ b + d → a - (d + 0) ≡ b + 0
    difference a b d h = omega arith
less-at v q (suc r) c l h =
    let k : q < 2 * v = lt_of_mul-lt-mul_right c (le_trans (over (q * c) r) h) in
    let s : 2 * v * c ≡ (2 * v - (q + 1)) * c + (q * c + 1 * c) = back (2 * v) (q + 1) c (omega arith) ∙ ap (λ (x : ℕ). (2 * v - (q + 1)) * c + x) (add-mul q 1 c) in
    let e : 2 * v * c - (q * c + suc r) ≡ (2 * v - (q + 1)) * c + (c - suc r) = difference (2 * v * c) ((2 * v - (q + 1)) * c) (q * c) s l in
    ap (λ (x : ℕ). closest x c) e
    ∙ parts (2 * v - (q + 1)) (c - suc r) c (omega arith)
    ∙ mirror v q (suc r) c (omega arith) l (omega arith) (compare (suc r * 2) c) (compare ((c - suc r) * 2) c) (cmp (suc r * 2) c) (cmp ((c - suc r) * 2) c)
  where
    over : (a r : ℕ) → a < a + suc r
    over a r = omega arith

    difference : (a b d : ℕ) → a ≡ b + (d + 1 * c) → suc r < c → a - (d + suc r) ≡ b + (c - suc r)
    difference a b d h l = omega arith

pub closest_less : (v a c : ℕ) → 0 < c → a ≤ 2 * v * c → closest (2 * v * c - a) c ≡ 2 * v - closest a c
closest_less v a c p h =
    let e : a / c * c + a % c ≡ a = div-add-mod' a c in
    ap (λ (x : ℕ). closest (2 * v * c - x) c) (sym e) ∙ less-at v (a / c) (a % c) c (mod-lt a p) (le_trans (le_of_eq e) h)

-- ---- against a half: beyond w + 1 / 2 it is above w, and before w + 1 / 2 it is at most w
pub up_from : (w a c : ℕ) → 0 < c → (2 * w + 1) * c < a * 2 → w < closest a c
up_from w a c p h = elim (eq-or-lt_of_le at_least) [
  | inl e ↦
      let d : a / c * c + a % c ≡ a = div-add-mod' a c in
      let f : w * c + a % c ≡ a = ap (λ (x : ℕ). x * c + a % c) e ∙ d in
      subst (λ (x : ℕ). x < closest a c) (sym e) (over (a / c) (a % c * 2) c (omega arith))
  | inr l ↦ le_trans l (nearest-ge (a / c) (compare (a % c * 2) c))
]
  where
    at_least : w ≤ a / c
    at_least = let k : w * c ≤ a = omega arith in (le-div_iff_mul-le p).1 k

    over : (q r c : ℕ) → c < r → q < nearest q (compare r c)
    over q r c h = go (compare r c) (cmp r c)
      where
        go : (o : Ordering) → Cmp o r c → q < nearest q o
        go Ordering.lt k = absurd (omega arith)
        go Ordering.eq k = absurd (omega arith)
        go Ordering.gt k = omega arith

pub down_to : (w a c : ℕ) → 0 < c → a * 2 < (2 * w + 1) * c → closest a c ≤ w
down_to w a c p h = elim (eq-or-lt_of_le below) [
  | inl e ↦
      let d : a / c * c + a % c ≡ a = div-add-mod' a c in
      let f : w * c + a % c ≡ a = ap (λ (x : ℕ). x * c + a % c) (sym e) ∙ d in
      le_trans (under (a / c) (a % c * 2) c (omega arith)) (le_of_eq e)
  | inr l ↦ le_trans (nearest-le (a / c) (compare (a % c * 2) c)) l
]
  where
    below : a / c ≤ w
    below =
        let k : a < (w + 1) * c = omega arith in
        let l : a / c < w + 1 = (div-lt_iff_lt-mul p).1 k in
        omega arith

    under : (q r c : ℕ) → r < c → nearest q (compare r c) ≤ q
    under q r c h = go (compare r c) (cmp r c)
      where
        go : (o : Ordering) → Cmp o r c → nearest q o ≤ q
        go Ordering.lt k = omega arith
        go Ordering.eq k = absurd (omega arith)
        go Ordering.gt k = absurd (omega arith)

-- the whole part is no larger
pub whole_part : (a c : ℕ) → a / c ≤ closest a c
whole_part a c = nearest-ge (a / c) (compare (a % c * 2) c)
