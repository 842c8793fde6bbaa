-- One less has the lowest bit off, and those below it on: the others.
use Rattle.std.proofs.Common.{◌≡◌, ℕ, zero, suc, ◌+◌, ◌-◌, ◌*◌, ◌/◌, ◌%◌, ◌^◌, ◌<◌, ◌≤◌, true, false, sym, refl, ◌∙◌, true≢false, arith, eqb-true}
use borrow.Author.Tests.{eqb-false}
use lib.Bits.{bit_and, and_step, and_self, and_le_r}
use Rattle.word_bits.specs.Words.{digit, bit}
use Rattle.word_bits.specs.Lowest.{Lowest, Others}
use Rattle.word_bits.proofs.Digits.{bit-none}

clear_odd : (d : ℕ) → d % 2 ≡ 1 → bit_and d (d - 1) ≡ d / 2 * 2
clear_odd d e =
    let half : (d - 1) / 2 ≡ d / 2 = omega arith in
    let rest : (d - 1) % 2 ≡ 0 = omega arith in
    and_step d (d - 1) ∙ rw (half, rest, and_self (d / 2)) (omega arith)

clear_even : (d : ℕ) → 0 < d → d % 2 ≡ 0 → bit_and d (d - 1) ≡ bit_and (d / 2) (d / 2 - 1) * 2
clear_even d h e =
    let half : (d - 1) / 2 ≡ d / 2 - 1 = omega arith in
    and_step d (d - 1) ∙ rw half (omega arith)

double-first : (x : ℕ) → bit (x * 2) 0 ≡ false
unfolding digit
double-first x = let z : x * 2 % 2 ≡ 0 = omega arith in rw z

double-later : (x b : ℕ) → bit (x * 2) (suc b) ≡ bit x b
unfolding digit
double-later x b = let z : x * 2 / 2 ≡ x = omega arith in rw z

-- what is below the lowest bit, of a number's half
off_half : (d z : ℕ) → ((b : ℕ) → b < suc z → bit d b ≡ false) → (b : ℕ) → b < z → bit (d / 2) b ≡ false
unfolding digit
off_half d z off b h = off (suc b) (omega arith)

bit-later : (d b : ℕ) → bit d (suc b) ≡ bit (d / 2) b
unfolding digit
bit-later d b = refl

odd-first : (d : ℕ) → bit d 0 ≡ true → d % 2 ≡ 1
unfolding digit
odd-first d e = eqb-true (d % 2) 1 e

even_first : (d : ℕ) → bit d 0 ≡ false → d % 2 ≡ 0
unfolding digit
even_first d e = omega (arith, eqb-false (d % 2) 1 e)

clear_kept : (z d b : ℕ) → 0 < d → bit d z ≡ true → ((b : ℕ) → b < z → bit d b ≡ false) → z < b → bit (bit_and d (d - 1)) b ≡ bit d b
clear_kept z d zero h on off l = absurd (omega arith)
clear_kept zero d (suc b) h on off l = rw (clear_odd d (odd-first d on)) (double-later (d / 2) b ∙ sym (bit-later d b))
clear_kept (suc z) d (suc b) h on off l =
    let e : d % 2 ≡ 0 = even_first d (off 0 (omega arith)) in
    rw (clear_even d h e)
    (double-later (bit_and (d / 2) (d / 2 - 1)) b ∙ clear_kept z (d / 2) b (omega arith) (sym (bit-later d z) ∙ on) (off_half d z off) (omega arith) ∙ sym (bit-later d b))

clear_gone : (z d b : ℕ) → 0 < d → bit d z ≡ true → ((b : ℕ) → b < z → bit d b ≡ false) → b ≤ z → bit (bit_and d (d - 1)) b ≡ false
clear_gone zero d zero h on off l = rw (clear_odd d (odd-first d on)) (double-first (d / 2))
clear_gone zero d (suc b) h on off l = absurd (omega arith)
clear_gone (suc z) d zero h on off l = rw (clear_even d h (even_first d (off 0 (omega arith)))) (double-first (bit_and (d / 2) (d / 2 - 1)))
clear_gone (suc z) d (suc b) h on off l =
    let e : d % 2 ≡ 0 = even_first d (off 0 (omega arith)) in
    rw (clear_even d h e)
    (double-later (bit_and (d / 2) (d / 2 - 1)) b ∙ clear_gone z (d / 2) b (omega arith) (sym (bit-later d z) ∙ on) (off_half d z off) (omega arith))

lowest_some : (d z : ℕ) → Lowest d z → 0 < d
lowest_some zero z l = absurd (true≢false (sym l.on ∙ bit-none z))
lowest_some (suc d) z l = omega arith

less_one : (d s : ℕ) → (s + 1) % 2 ^ 64 ≡ d → s < 2 ^ 64 → 0 < d → s ≡ d - 1
less_one d s wraps fits some = omega arith

pub others_are : (d s : ℕ) → (s + 1) % 2 ^ 64 ≡ d → s < 2 ^ 64 → Others d (bit_and d s)
others_are d s wraps fits =
    record {
      less = λ some. omega (arith, and_le_r d s, less_one d s wraps fits some);
      kept = λ z b l m. let some : 0 < d = lowest_some d z l in rw (less_one d s wraps fits some) (clear_kept z d b some l.on l.off m);
      gone = λ z b l m. let some : 0 < d = lowest_some d z l in rw (less_one d s wraps fits some) (clear_gone z d b some l.on l.off m);
    }

pub others_less : {d r : ℕ} → Others d r → 0 < d → r < d
others_less o h = o.less h
