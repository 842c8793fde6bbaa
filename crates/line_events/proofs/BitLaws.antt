-- Bits of a word: what goes on past each, and what is before each.
use Prim.Native.Nat.{ℕ, suc, ◌+◌, ◌-◌, ◌*◌, ◌/◌, ◌%◌, ◌^◌, ◌≤◌}
use native.Mathlib.Numerals.{add-one}
use native.Mathlib.Omega.{arith}
use mathlib.Core.Path.{◌≡◌, refl, ap, ◌∙◌}
use mathlib.Core.Bool.{Bool, true, false, not, ◌&&◌, or-false}
use mir.Val.{bool_byte}
use lib.Bits.{bit_and, bit_or, bit_xor}
use Rattle.formula.specs.Formula.{exclusive, meaning}
use Rattle.word_bits.specs.Words.{digit, bit}
use Rattle.line_events.specs.Noted.{one_if, GoesOn, Before, FirstOn}
use Rattle.word_bits.proofs.Digits.{bit-and, bit-or, bit-xor, bit-ones, bit-none, bit-first, bit_moved, bit_shift, bit_past}

pub goes_on : (w y : ℕ) → GoesOn w y (bit_and w (bit_xor w y))
goes_on w y = record { says = λ b. bit-and w (bit_xor w y) b ∙ ap (λ (x : Bool). bit w b && x) (bit-xor w y b) ∙ by (bit w b) (bit y b) }
  where
    by : (p q : Bool) → (p && meaning exclusive p q) ≡ (not q && p)
    by true true = refl
    by true false = refl
    by false true = refl
    by false false = refl

one-first : (holds : Bool) → bit (one_if holds) 0 ≡ holds
unfolding digit
one-first true = refl
one-first false = refl

one_above : (holds : Bool) (b : ℕ) → bit (one_if holds) (suc b) ≡ false
unfolding digit
one_above true b = bit-none b
one_above false b = bit-none b

byte_is : (b : Bool) → bool_byte b ≡ one_if b
byte_is true = refl
byte_is false = refl

pub metal_before : (w y g l : ℕ) (metal : Bool) → GoesOn w y g → l ≡ bool_byte metal → Before w y metal (bit_or (g * 2 ^ 1 % 2 ^ 64) l)
metal_before w y g l metal on is =
    let one : l ≡ one_if metal = is ∙ byte_is metal in
    rw one
    (record {
      first = bit-or (g * 2 ^ 1 % 2 ^ 64) (one_if metal) 0 ∙ rw (bit-first g) (one-first metal);
      next = λ b lt.
          rw (add-one b)
          (bit-or (g * 2 ^ 1 % 2 ^ 64) (one_if metal) (suc b) ∙ rw (bit_moved g b (omega arith), one_above metal b) (or-false (bit g b)) ∙ on.says b);
    })

pub first_on : (m : ℕ) → m ≤ 64 → FirstOn m ((2 ^ 64 - 1) / 2 ^ (64 - m))
first_on m h =
    record {
      on = λ b l. bit_shift (2 ^ 64 - 1) (64 - m) b ∙ bit-ones (64 - m + b) (omega arith);
      off = λ b l. bit_shift (2 ^ 64 - 1) (64 - m) b ∙ bit_past 64 (2 ^ 64 - 1) (64 - m + b) (omega arith) (omega arith);
    }
