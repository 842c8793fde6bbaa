-- One bit of a word: alone, put in, taken out.
use Rattle.std.proofs.Common.{◌≡◌, ℕ, zero, suc, ◌+◌, ◌*◌, ◌%◌, ◌^◌, ◌<◌, ◌≤◌, max, Bool, true, false, cond, ◌&&◌, ◌||◌, eqb, refl, ap, ◌∙◌, subst, arith, eq-eqb, ne_eqb, eqb-true}
use mathlib.Core.Bool.{and-true, and-false, or-false}
use lib.Dec.{eqb-suc-suc, eqb-zero-suc, eqb-suc-zero}
use lib.Bits.{bit_or, bit_xor, differ, or_step, xor_step, shifted_half, shifted_even}
use borrow.Author.Tests.{eqb-false}
use Rattle.word_bits.specs.Words.{digit, bit, WithBit, Picked}
use Rattle.word_bits.proofs.Digits.{bit-or, bit-none, digit_zero, digit_small, digit_by, differ_small, digit_mod}

digit-one : (b c : ℕ) → digit (1 * 2 ^ b) c ≡ cond (eqb c b) 1 0
unfolding digit
digit-one zero zero = refl
digit-one zero (suc c) = digit_zero c ∙ rw (eqb-suc-zero c)
digit-one (suc b) zero = shifted_even 1 b ∙ rw (eqb-zero-suc b)
digit-one (suc b) (suc c) = ap (λ (x : ℕ). digit x c) (shifted_half 1 b) ∙ digit-one b c ∙ rw (eqb-suc-suc c b)

-- as the machine makes it, in a word so wide
bit-alone : (width b d : ℕ) → d < width → bit (1 * 2 ^ b % 2 ^ width) d ≡ eqb d b
bit-alone width b d h = ap (λ (x : ℕ). eqb x 1) (digit_mod (1 * 2 ^ b) width d h ∙ digit-one b d) ∙ told (eqb d b)
  where
    told : (t : Bool) → eqb (cond t 1 0) 1 ≡ t
    told true = refl
    told false = refl

pub one_bit : (b d : ℕ) → d < 64 → bit (1 * 2 ^ b % 2 ^ 64) d ≡ eqb d b
one_bit = bit-alone 64

-- a word with one bit more, if it is to be, as the machine puts it in
pub with_bit_is : (w j : ℕ) (on : Bool) (one : ℕ) → one ≡ cond on 1 0 → WithBit w j on (bit_or w (one * 2 ^ j % 2 ^ 32))
with_bit_is w j on one e = record { is = λ c h. bit-or w (one * 2 ^ j % 2 ^ 32) c ∙ ap (λ (b : Bool). bit w c || b) (ap (λ (n : ℕ). bit (n * 2 ^ j % 2 ^ 32) c) e ∙ by c h on) }
  where
    by : (c : ℕ) → c < 32 → (on : Bool) → bit (cond on 1 0 * 2 ^ j % 2 ^ 32) c ≡ (on && eqb c j)
    by c h true = bit-alone 32 j c h
    by c h false = let z : 0 * 2 ^ j % 2 ^ 32 ≡ 0 = omega arith in rw z (bit-none c)

-- bits put on one after another
pub picked_starts : {these : ℕ → Bool} → Picked these 0 0
picked_starts = record { are = λ c h. absurd (omega arith); none = λ c h l. bit-none c }

pub picked_on : {these : ℕ → Bool} {n w : ℕ} {on : Bool} {r : ℕ} → n < 32 → Picked these n w → on ≡ these n → WithBit w n on r → Picked these (n + 1) r
picked_on {these} {n} {w} {on} {r} inside before says put = record { are = λ c h. go c h (eqb c n) refl; none = λ c h l. past c h l }
  where
    go : (c : ℕ) → c < n + 1 → (t : Bool) → eqb c n ≡ t → bit r c ≡ these c
    go c h true q =
        let e : c ≡ n = eqb-true c n q in
        put.is c (omega arith) ∙ rw (q, e, before.none n (omega arith) inside, and-true on) says
    go c h false q =
        let d : c ≡ n → ⊥ = eqb-false c n q in
        let l : c < n = omega (arith, d) in
        put.is c (omega arith) ∙ rw (q, and-false on, or-false (bit w c)) (before.are c l)

    past : (c : ℕ) → n + 1 ≤ c → c < 32 → bit r c ≡ false
    past c h l =
        let d : c ≡ n → ⊥ = λ e. omega arith in
        put.is c l ∙ rw (ne_eqb c n d, and-false on, before.none c (omega arith) l)

pub picked_ends : {these : ℕ → Bool} {n w : ℕ} (all : ℕ) → n ≤ all → all ≤ n → Picked these n w → Picked these all w
picked_ends {these} {n} {w} all h k at = let e : n ≡ all = omega arith in subst (λ (m : ℕ). Picked these m w) e at

pub put_here : (x b : ℕ) → digit (bit_or x (1 * 2 ^ b)) b ≡ 1
put_here x b = digit_by bit_or max or_step (λ x y h g. omega arith) x (1 * 2 ^ b) b ∙ rw (digit-one b b, eq-eqb b b refl) (omega (arith, digit_small x b))

pub put_other : (x b c : ℕ) → (b ≡ c → ⊥) → digit (bit_or x (1 * 2 ^ b)) c ≡ digit x c
put_other x b c n = digit_by bit_or max or_step (λ x y h g. omega arith) x (1 * 2 ^ b) c ∙ rw (digit-one b c, ne_eqb c b (λ q. n (omega arith))) (omega arith)

differ_zero : (x : ℕ) → differ x 0 ≡ x
differ_zero zero = refl
differ_zero (suc x) = refl

pub drop_here : (x b : ℕ) → digit x b ≡ 1 → digit (bit_xor x (1 * 2 ^ b)) b ≡ 0
drop_here x b e = digit_by bit_xor differ xor_step differ_small x (1 * 2 ^ b) b ∙ rw (digit-one b b, eq-eqb b b refl, e)

pub drop-other : (x b c : ℕ) → (b ≡ c → ⊥) → digit (bit_xor x (1 * 2 ^ b)) c ≡ digit x c
drop-other x b c n = digit_by bit_xor differ xor_step differ_small x (1 * 2 ^ b) c ∙ rw (digit-one b c, ne_eqb c b (λ q. n (omega arith))) (differ_zero (digit x c))
