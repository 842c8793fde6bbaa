-- A formula's codes among its bytes, two a code.
use Prim.Native.Nat.{ℕ, zero, suc, ◌+◌, ◌*◌, ◌/◌, ◌%◌, ◌<◌}
use native.Mathlib.Omega.{arith}
use mathlib.Core.Path.{◌≡◌, refl, ap, ◌∙◌}
use mathlib.Core.List.{List, [], ◌∷◌}
use lib.ListN.{length, get_or}
use Rattle.sheet.specs.Sheet.{two_bytes_at, codes_of}

pub codes_long : (p : List ℕ) → length p % 2 ≡ 0 → 2 * length (codes_of p) ≡ length p
unfolding codes_of
codes_long [] e = refl
codes_long (h ∷ []) e = absurd (omega (arith, e))
codes_long (h ∷ l ∷ p) e = omega (arith, codes_long p (omega (arith, e)))

pub two-code : (p : List ℕ) (i : ℕ) → i < length p / 2 → two_bytes_at p (2 * i) ≡ get_or (codes_of p) i 0
unfolding codes_of
two-code [] i h = absurd (omega (arith, h))
two-code (h ∷ []) i k = absurd (omega (arith, k))
two-code (h ∷ l ∷ p) zero k = refl
two-code (h ∷ l ∷ p) (suc i) k =
    let even : 2 * suc i ≡ suc (suc (2 * i)) = omega arith in
    let odd : 2 * suc i + 1 ≡ suc (suc (2 * i + 1)) = omega arith in
    ap (λ (j : ℕ). get_or (h ∷ l ∷ p) j 0 * 256 + get_or (h ∷ l ∷ p) (2 * suc i + 1) 0) even
    ∙ ap (λ (j : ℕ). get_or p (2 * i) 0 * 256 + get_or (h ∷ l ∷ p) j 0) odd
    ∙ two-code p i (omega (arith, k))
