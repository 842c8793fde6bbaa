-- The lowest bit that is on: above the zeros at the low end.
use Rattle.std.proofs.Common.{◌≡◌, ℕ, zero, suc, ◌/◌, ◌%◌, ◌^◌, ◌<◌, refl, pow-suc, arith, w64, Fits, eq-eqb, ne_eqb, eqb-true}
use borrow.Author.Tests.{eqb-false}
use lib.Count.{under, count_trailing_zeros, trailing_le}
use Rattle.word_bits.specs.Words.{digit}
use Rattle.word_bits.specs.Lowest.{Lowest}
use Rattle.word_bits.proofs.Digits.{digit_small}

pub trailing_digit : (k w b : ℕ) → b < count_trailing_zeros k w → digit w b ≡ 0
unfolding count_trailing_zeros digit
trailing_digit zero w b h = absurd (omega arith)
trailing_digit (suc k) w zero h = first (w % 2) refl h
  where
    first : (d : ℕ) → w % 2 ≡ d → 0 < under d (count_trailing_zeros k (w / 2)) → w % 2 ≡ 0
    first zero e h = e
    first (suc d) e h = absurd (omega arith)
trailing_digit (suc k) w (suc b) h = trailing_digit k (w / 2) b (later (w % 2) h)
  where
    later : (d : ℕ) → suc b < under d (count_trailing_zeros k (w / 2)) → b < count_trailing_zeros k (w / 2)
    later zero h = omega arith
    later (suc d) h = absurd (omega arith)

trailing_low : (k d : ℕ) → 0 < d → d < 2 ^ k → count_trailing_zeros k d < k
unfolding count_trailing_zeros
trailing_low zero d h l = absurd (omega arith)
trailing_low (suc k) d h l = go (d % 2) refl (λ q. trailing_low k (d / 2) q (omega (arith, pow-suc 2 k)))
  where
    go : (r : ℕ) → d % 2 ≡ r → (0 < d / 2 → count_trailing_zeros k (d / 2) < k) → under r (count_trailing_zeros k (d / 2)) < suc k
    go zero e less = omega (arith, less (omega arith))
    go (suc r) e less = omega arith

trailing_on : (k d : ℕ) → 0 < d → d < 2 ^ k → digit d (count_trailing_zeros k d) ≡ 1
unfolding count_trailing_zeros digit
trailing_on zero d h l = absurd (omega arith)
trailing_on (suc k) d h l = go (d % 2) refl (λ q. trailing_on k (d / 2) q (omega (arith, pow-suc 2 k)))
  where
    go : (r : ℕ) → d % 2 ≡ r → (0 < d / 2 → digit (d / 2) (count_trailing_zeros k (d / 2)) ≡ 1) → digit d (under r (count_trailing_zeros k (d / 2))) ≡ 1
    go zero e on = on (omega arith)
    go (suc r) e on = omega arith

pub lowest_is : (d : ℕ) → 0 < d → d < 2 ^ 64 → Lowest d (count_trailing_zeros 64 d)
lowest_is d some fits =
    record {
      low = trailing_low 64 d some fits;
      on = eq-eqb (digit d (count_trailing_zeros 64 d)) 1 (trailing_on 64 d some fits);
      off = λ b h. ne_eqb (digit d b) 1 (λ q. omega (arith, trailing_digit 64 d b h));
    }

pub lowest_fits : (d : ℕ) → Fits w64 (count_trailing_zeros 64 d)
lowest_fits d = record { fits = omega (arith, trailing_le 64 d) }

-- as digits
module _ {d z : ℕ} (l : Lowest d z) where
  pub lowest_digit : digit d z ≡ 1
  lowest_digit = eqb-true (digit d z) 1 l.on

  pub lower-digit : (c : ℕ) → c < z → digit d c ≡ 0
  lower-digit c h = omega (arith, digit_small d c, eqb-false (digit d c) 1 (l.off c h))
