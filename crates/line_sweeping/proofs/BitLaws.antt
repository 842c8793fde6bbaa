-- Bits of a word: which may be events.
use Prim.Native.Nat.{ℕ, ◌+◌, ◌-◌, ◌*◌, ◌/◌, ◌%◌, ◌^◌, ◌≤◌, ◌<◌}
use native.Mathlib.Omega.{arith}
use mathlib.Core.Path.{◌≡◌, refl, sym, ap, ◌∙◌}
use mathlib.Core.Bool.{Bool, true, false, not, ◌&&◌, ◌||◌, beq, true≢false}
use mathlib.Core.List.{List}
use borrow.Author.Tests.{ne_eqb}
use lib.Bits.{bit_and, bit_or, bit_xor}
use lib.Count.{count_trailing_zeros, trailing_le}
use lib.ListN.{get_or}
use Rattle.formula.specs.Formula.{exclusive, meaning}
use Rattle.word_bits.specs.Words.{digit, bit}
use Rattle.line_lists.specs.Block.{cell}
use Rattle.line_sweeping.specs.Sweeping.{Quiet, NextNoisy}
use Rattle.word_bits.proofs.Digits.{bit-and, bit-or, bit-xor, bit-ones}
use Rattle.word_bits.proofs.Digits.{bit_shift}
use Rattle.word_bits.proofs.LowestLaws.{trailing_digit}

-- below the lowest bit that is on, from bit j on
zeros-off : (k w j b : ℕ) → j ≤ b → b < count_trailing_zeros k (w / 2 ^ j) + j → bit w b ≡ false
zeros-off k w j b lo h =
    let at : j + (b - j) ≡ b = omega arith in
    sym (bit_shift w j (b - j) ∙ ap (bit w) at) ∙ ne_eqb (digit (w / 2 ^ j) (b - j)) 1 (λ q. omega (arith, trailing_digit k (w / 2 ^ j) (b - j) (omega arith)))

pub differs_on : (w b : ℕ) → b < 64 → bit (bit_xor w (2 ^ 64 - 1)) b ≡ not (beq true (bit w b))
differs_on w b h = bit-xor w (2 ^ 64 - 1) b ∙ ap (meaning exclusive (bit w b)) (bit-ones b h) ∙ by (bit w b)
  where
    by : (x : Bool) → meaning exclusive x true ≡ not (beq true x)
    by true = refl
    by false = refl

pub differs_off : (x : Bool) → x ≡ not (beq false x)
differs_off true = refl
differs_off false = refl

quiet_off : (metal bit last noisy : Bool) → noisy ≡ (not (beq metal bit) || (bit && last)) → noisy ≡ false → Quiet metal bit last
quiet_off true true true noisy e f = absurd (true≢false (sym e ∙ f))
quiet_off true true false noisy e f = record { alike = refl; inner = refl }
quiet_off true false last noisy e f = absurd (true≢false (sym e ∙ f))
quiet_off false true last noisy e f = absurd (true≢false (sym e ∙ f))
quiet_off false false last noisy e f = record { alike = refl; inner = refl }

-- so the lowest bit on, of those that differ or are on at a line's end, is the next that may be an event
pub next_noisy : (w y j d z : ℕ) (metal : Bool) → ((b : ℕ) → b < 64 → bit d b ≡ not (beq metal (bit w b))) → z ≡ count_trailing_zeros 64 (bit_or d (bit_and w y) / 2 ^ j) → z ≤ 64 → j < 64 → NextNoisy w y j metal (z + j)
next_noisy w y j d z metal says is few low =
    record {
      rises = omega arith;
      near = omega arith;
      quiet = λ b lo hi top.
          let noisy : bit (bit_or d (bit_and w y)) b ≡ (not (beq metal (bit w b)) || (bit w b && bit y b)) = bit-or d (bit_and w y) b ∙ rw (says b top, bit-and w y b) in
          quiet_off metal (bit w b) (bit y b) (bit (bit_or d (bit_and w y)) b) noisy (zeros-off 64 (bit_or d (bit_and w y)) j b lo (omega (arith, is)));
    }

pub zeros_few : (d j z : ℕ) → z ≡ count_trailing_zeros 64 (d / 2 ^ j) → z ≤ 64
zeros_few d j z is = omega (arith, is, trailing_le 64 (d / 2 ^ j))

-- word k of a row
pub cell_word : (row : List ℕ) (k b : ℕ) → b < 64 → bit (get_or row k 0) b ≡ cell row (64 * k + b)
unfolding cell
cell_word row k b h =
    let q : (64 * k + b) / 64 ≡ k = omega arith in
    let m : (64 * k + b) % 64 ≡ b = omega arith in
    rw (q, m)
