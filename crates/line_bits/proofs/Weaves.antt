-- Bytes woven into a word: one byte, and two halves joined.
use Prim.Native.Nat.{ℕ, zero, suc, ◌+◌, ◌-◌, ◌*◌, ◌/◌, ◌^◌, ◌%◌, ◌≤◌, ◌<◌}
use mathlib.Core.Path.{◌≡◌, refl, sym, ap, ◌∙◌}
use mathlib.Core.Bool.{Bool, true, false, ◌&&◌, and-false}
use mathlib.Core.List.{List, [], ◌∷◌}
use native.Mathlib.Omega.{arith}
use lib.Dec.{eqb, ltb}
use lib.Bits.{bit_or}
use lib.ListN.{length, get_or}
use borrow.Author.Tests.{ltb-true, ltb-false, ne_eqb}
use Rattle.word_bits.specs.Words.{digit, bit}
use Rattle.word_bits.proofs.Digits.{bit-none, bit_past, bit_shift, digit_mod, first_bit, second-bit}
use Rattle.line_bits.specs.Bits.{Binary, Woven}

-- ---- eight bytes, the first the lowest
worth : List ℕ → ℕ
worth [] = 0
worth (b ∷ bs) = b + 256 * worth bs

worth_bit : (bs : List ℕ) (j i : ℕ) → ((k : ℕ) → k < length bs → get_or bs k 0 ≤ 1) → i < 8 → bit (worth bs) (8 * j + i) ≡ (eqb i 0 && eqb (get_or bs j 0) 1)
unfolding worth digit
worth_bit [] j i small h = bit-none (8 * j + i) ∙ sym (and-false (eqb i 0))
worth_bit (b ∷ bs) zero i small h =
    let at : 8 * 0 + i ≡ i = omega arith in
    let low : (b + 256 * worth bs) % 2 ^ 8 ≡ b = omega (arith, small 0 (omega arith)) in
    rw at (ap (λ (x : ℕ). eqb x 1) (sym (digit_mod (b + 256 * worth bs) 8 i h)) ∙ ap (λ (x : ℕ). bit x i) low ∙ alone i)
  where
    alone : (i : ℕ) → bit b i ≡ (eqb i 0 && eqb b 1)
    alone zero = let same : b % 2 ≡ b = omega (arith, small 0 (omega arith)) in ap (λ (x : ℕ). eqb x 1) same
    alone (suc i) = bit_past 1 b (suc i) (omega (arith, small 0 (omega arith))) (omega arith) ∙ rw (ne_eqb (suc i) 0 (λ e. omega arith))
worth_bit (b ∷ bs) (suc j) i small h =
    let at : 8 * suc j + i ≡ 8 + (8 * j + i) = omega arith in
    let up : (b + 256 * worth bs) / 2 ^ 8 ≡ worth bs = omega (arith, small 0 (omega arith)) in
    rw at (sym (bit_shift (b + 256 * worth bs) 8 (8 * j + i)) ∙ ap (λ (x : ℕ). bit x (8 * j + i)) up ∙ worth_bit bs j i (λ k l. small (suc k) (omega arith)) h)

pub weave_8 : (bytes : List ℕ) (s r : ℕ) → Binary bytes → s + 8 ≤ length bytes
    → r ≡ get_or bytes s 0 + get_or bytes (s + 1) 0 * 256 + get_or bytes (s + 2) 0 * 256 ^ 2 + get_or bytes (s + 3) 0 * 256 ^ 3 + get_or bytes (s + 4) 0 * 256 ^ 4 + get_or bytes (s + 5) 0 * 256 ^ 5 + get_or bytes (s + 6) 0 * 256 ^ 6 + get_or bytes (s + 7) 0 * 256 ^ 7
    → Woven bytes s 8 1 r
unfolding worth
weave_8 bytes s r binary far is = record { are = are; beside = λ j i l h g. absurd (omega arith); beyond = λ j i h l g. of j i g ∙ rw (ne_eqb i 0 (λ e. omega arith)) }
  where
    these : List ℕ
    these = get_or bytes s 0 ∷ get_or bytes (s + 1) 0 ∷ get_or bytes (s + 2) 0 ∷ get_or bytes (s + 3) 0 ∷ get_or bytes (s + 4) 0 ∷ get_or bytes (s + 5) 0 ∷ get_or bytes (s + 6) 0 ∷ get_or bytes (s + 7) 0 ∷ []

    at : (j : ℕ) → j < 8 → get_or these j 0 ≡ get_or bytes (s + j) 0
    at zero h = let e : s + 0 ≡ s = omega arith in rw e
    at (suc zero) h = refl
    at (suc (suc zero)) h = refl
    at (suc (suc (suc zero))) h = refl
    at (suc (suc (suc (suc zero)))) h = refl
    at (suc (suc (suc (suc (suc zero))))) h = refl
    at (suc (suc (suc (suc (suc (suc zero)))))) h = refl
    at (suc (suc (suc (suc (suc (suc (suc zero))))))) h = refl
    at (suc (suc (suc (suc (suc (suc (suc (suc j)))))))) h = absurd (omega arith)

    all : r ≡ worth these
    all = is ∙ omega arith

    of : (j i : ℕ) → i < 8 → bit r (8 * j + i) ≡ (eqb i 0 && eqb (get_or these j 0) 1)
    of j i h = rw all (worth_bit these j i (λ k l. rw (at k l) (binary.bits (s + k) (omega arith))) h)

    are : (j i : ℕ) → j < 8 → i < 1 → bit r (8 * j + i) ≡ eqb (get_or bytes (s + j + 8 * i) 0) 1
    are j zero h g = let e : s + j + 8 * 0 ≡ s + j = omega arith in of j 0 (omega arith) ∙ rw (e, at j h)
    are j (suc i) h g = absurd (omega arith)

-- ---- eight more bytes at the same place
module _ (bytes : List ℕ) (s m a b : ℕ) (few : m < 8) (left : Woven bytes s 8 m a) (right : Woven bytes (s + 8 * m) 8 1 b) where
  along-first : (j i : ℕ) → j < 8 → i < m → bit (bit_or a (b * 2 ^ m % 2 ^ 64)) (8 * j + i) ≡ bit a (8 * j + i)
  along-first j i h g = first_bit a b m (8 * j + i) (omega arith) (off j h)
    where
      off : (j : ℕ) → j < 8 → m ≤ 8 * j + i → bit b (8 * j + i - m) ≡ false
      off zero h l = absurd (omega arith)
      off (suc j) h l =
          let at : 8 * suc j + i - m ≡ 8 * j + (i + 8 - m) = omega arith in
          ap (bit b) at ∙ right.beyond j (i + 8 - m) (omega arith) (omega arith) (omega arith)

  along-second : (j i : ℕ) → j < 8 → m ≤ i → i < 8 → bit (bit_or a (b * 2 ^ m % 2 ^ 64)) (8 * j + i) ≡ bit b (8 * j + (i - m))
  along-second j i h l g = second-bit a b m (8 * j + i) (8 * j + (i - m)) (omega arith) (omega arith) (left.beyond j i h l g)

  along : Woven bytes s 8 (m + 1) (bit_or a (b * 2 ^ m % 2 ^ 64))
  along =
      record {
        are = λ j i h g. by_are j i h g (ltb i m) refl;
        beside = λ j i l h g. absurd (omega arith);
        beyond = λ j i h l g. along-second j i h (omega arith) g ∙ right.beyond j (i - m) h (omega arith) (omega arith);
      }
    where
      by_are : (j i : ℕ) → j < 8 → i < m + 1 → (t : Bool) → ltb i m ≡ t → bit (bit_or a (b * 2 ^ m % 2 ^ 64)) (8 * j + i) ≡ eqb (get_or bytes (s + j + 8 * i) 0) 1
      by_are j i h g true q = along-first j i h (ltb-true i m q) ∙ left.are j i h (ltb-true i m q)
      by_are j i h g false q =
          let l : m ≤ i = ltb-false i m q in
          let at : s + 8 * m + j + 8 * (i - m) ≡ s + j + 8 * i = omega arith in
          along-second j i h l (omega arith) ∙ right.are j (i - m) h (omega arith) ∙ ap (λ (x : ℕ). eqb (get_or bytes x 0) 1) at

pub weave_on : (bytes : List ℕ) (s a b c d : ℕ) → Woven bytes s 8 1 a → Woven bytes (s + 8) 8 1 b → Woven bytes (s + 16) 8 1 c → Woven bytes (s + 24) 8 1 d
    → Woven bytes s 8 4 (bit_or (bit_or (bit_or a (b * 2 ^ 1 % 2 ^ 64)) (c * 2 ^ 2 % 2 ^ 64)) (d * 2 ^ 3 % 2 ^ 64))
weave_on bytes s a b c d first second third fourth =
    let two = along bytes s 1 a b (omega arith) first second in
    let three = along bytes s 2 _ c (omega arith) two third in
    along bytes s 3 _ d (omega arith) three fourth
