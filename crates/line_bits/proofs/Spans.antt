-- From a bit to the first one that is on.
use Prim.Native.Nat.{ℕ, zero, suc, ◌+◌, ◌-◌, ◌*◌, ◌/◌, ◌%◌, ◌^◌, ◌≤◌, ◌<◌}
use mathlib.Core.Path.{◌≡◌, refl, sym, ap, ◌∙◌}
use mathlib.Core.Bool.{Bool, true, false, not, ◌&&◌, ◌||◌, or-false}
use native.Mathlib.Omega.{arith}
use native.Mathlib.Nat.{pow-suc}
use lib.Dec.{eqb, leb}
use lib.Bits.{bit_or, bit_xor, xor_step, xor_self, xor_shr, or_lt}
use lib.Pow.{pow-add, pow-lt, pow_mono, shl_exact}
use borrow.Author.Tests.{eq-eqb, leb-true, leb-false, le-leb, lt-leb}
use Rattle.formula.specs.Formula.{exclusive, meaning}
use Rattle.word_bits.specs.Words.{digit, bit}
use Rattle.line_bits.specs.Bits.{none, One, Moved, Inner, Spans, Since, Masked}
use Rattle.word_bits.proofs.Digits.{bit-or, bit-xor, bit-none, bit_top, bit_top-on, bit_past, shift_bit, small_word}
use Rattle.std.proofs.lemmas.Nat.Bits.{bit_at_not}
use Rattle.std.proofs.Common.{w64}
use Rattle.std.specs.Int.Count.{count_leading_zeros, leading_of_zero}
use Rattle.std.proofs.lemmas.Nat.{leading_top}

-- ---- none of some
none-later : (f : ℕ → Bool) (i d : ℕ) → none f (suc i) d ≡ none (λ x. f (suc x)) i d
unfolding none
none-later f i zero = refl
none-later f i (suc d) = ap (λ (x : Bool). not (f (suc i)) && x) (none-later f (suc i) d)

-- the same numbers, counted from c on
pub none_from : (f g : ℕ → Bool) (c i d : ℕ) → ((x : ℕ) → i ≤ x → x < i + d → f x ≡ g (c + x)) → none f i d ≡ none g (c + i) d
unfolding none
none_from f g c i zero h = refl
none_from f g c i (suc d) h =
    let e : suc (c + i) ≡ c + suc i = omega arith in
    rw (h i (omega arith) (omega arith), e)
    (ap (λ (x : Bool). not (g (c + i)) && x) (none_from f g c (suc i) d (λ x l m. h x (omega arith) (omega arith))))

none-same : (f g : ℕ → Bool) (i d : ℕ) → ((x : ℕ) → i ≤ x → x < i + d → f x ≡ g x) → none f i d ≡ none g i d
unfolding none
none-same f g i zero h = refl
none-same f g i (suc d) h =
    rw (h i (omega arith) (omega arith))
    (ap (λ (x : Bool). not (g i) && x) (none-same f g (suc i) d (λ x l m. h x (omega arith) (omega arith))))

-- ---- the bits that a carry flips
abbrev off : ℕ → ℕ → Bool
off x c = not (bit x c)

module _ (x : ℕ) where
  even_half : x % 2 ≡ 0 → bit_xor (x + 1) x / 2 ≡ 0
  even_half e =
      let h : (x + 1) / 2 ≡ x / 2 = omega arith in
      let d : (x + 1) % 2 ≡ 1 = omega arith in
      let t : bit_xor (x + 1) x ≡ 0 * 2 + 1 = xor_step (x + 1) x ∙ rw (e, d, h, xor_self (x / 2)) in
      omega (arith, t)

  odd_half : x % 2 ≡ 1 → bit_xor (x + 1) x / 2 ≡ bit_xor (x / 2 + 1) (x / 2)
  odd_half e =
      let h : (x + 1) / 2 ≡ x / 2 + 1 = omega arith in
      let d : (x + 1) % 2 ≡ 0 = omega arith in
      let t : bit_xor (x + 1) x ≡ bit_xor (x / 2 + 1) (x / 2) * 2 + 1 = xor_step (x + 1) x ∙ rw (e, d, h) in
      omega (arith, t)

  xor_odd : bit_xor (x + 1) x % 2 ≡ 1
  xor_odd = go (x % 2) refl
    where
      go : (r : ℕ) → x % 2 ≡ r → bit_xor (x + 1) x % 2 ≡ 1
      go zero e =
          let d : (x + 1) % 2 ≡ 1 = omega arith in
          let t : bit_xor (x + 1) x ≡ bit_xor ((x + 1) / 2) (x / 2) * 2 + 1 = xor_step (x + 1) x ∙ rw (e, d) in
          omega (arith, t)
      go (suc zero) e =
          let d : (x + 1) % 2 ≡ 0 = omega arith in
          let t : bit_xor (x + 1) x ≡ bit_xor ((x + 1) / 2) (x / 2) * 2 + 1 = xor_step (x + 1) x ∙ rw (e, d) in
          omega (arith, t)
      go (suc (suc r)) e = absurd (omega arith)

carry_first : (b x : ℕ) → bit (bit_xor (x + 1) x) b ≡ none (off x) 0 b
unfolding none digit
carry_first zero x = eq-eqb (bit_xor (x + 1) x % 2) 1 (xor_odd x)
carry_first (suc b) x = go (x % 2) refl (carry_first b (x / 2))
  where
    go : (r : ℕ) → x % 2 ≡ r → bit (bit_xor (x / 2 + 1) (x / 2)) b ≡ none (off (x / 2)) 0 b → eqb (digit (bit_xor (x + 1) x / 2) b) 1 ≡ (not (not (eqb (x % 2) 1)) && none (off x) 1 b)
    go zero e ih = ap (λ (y : ℕ). bit y b) (even_half x e) ∙ bit-none b ∙ rw e
    go (suc zero) e ih = ap (λ (y : ℕ). bit y b) (odd_half x e) ∙ ih ∙ sym (none-later (off x) 0 b) ∙ rw e
    go (suc (suc r)) e ih = absurd (omega arith)

exclusive_self : (t : Bool) → meaning exclusive t t ≡ false
exclusive_self true = refl
exclusive_self false = refl

leb-suc : (j b : ℕ) → leb j b ≡ leb (suc j) (suc b)
leb-suc j b = go (leb j b) refl
  where
    go : (t : Bool) → leb j b ≡ t → leb j b ≡ leb (suc j) (suc b)
    go true e = e ∙ sym (le-leb (suc j) (suc b) (omega (arith, leb-true j b e)))
    go false e = e ∙ sym (lt-leb (suc j) (suc b) (omega (arith, leb-false j b e)))

carry_bit : (j b x : ℕ) → bit (bit_xor (x + 2 ^ j) x) b ≡ (leb j b && none (off x) j (b - j))
unfolding digit
carry_bit zero b x = let z : b - 0 ≡ b = omega arith in rw (z, le-leb 0 b (omega arith)) (carry_first b x)
carry_bit (suc j) zero x =
    let e : (x + 2 ^ suc j) % 2 ≡ x % 2 = omega (arith, pow-suc 2 j) in
    bit-xor (x + 2 ^ suc j) x 0 ∙ ap (λ (y : ℕ). meaning exclusive (eqb y 1) (eqb (x % 2) 1)) e ∙ exclusive_self (eqb (x % 2) 1)
    ∙ rw (lt-leb (suc j) 0 (omega arith))
carry_bit (suc j) (suc b) x =
    let h : (x + 2 ^ suc j) / 2 ≡ x / 2 + 2 ^ j = omega (arith, pow-suc 2 j) in
    let z : suc b - suc j ≡ b - j = omega arith in
    ap (λ (y : ℕ). bit y b) (xor_shr (x + 2 ^ suc j) x 1 ∙ ap (λ (y : ℕ). bit_xor y (x / 2)) h) ∙ carry_bit j b (x / 2)
    ∙ rw (leb-suc j b, z) (ap (λ (t : Bool). leb (suc j) (suc b) && t) (sym (none-later (off x) j (b - j))))

-- ---- a bit alone
pub one_first : One 1 0
one_first = record { is = λ h. refl }

pub one_shifted : (j : ℕ) → One (1 * 2 ^ j % 2 ^ 64) j
one_shifted j = record { is = λ h. shl_exact {a = 1} 1 j 64 (omega arith) (omega arith) ∙ omega arith }

one-moved : (one j : ℕ) → One one j → One (one * 2 ^ 1 % 2 ^ 64) (j + 1)
one-moved one j o = record { is = λ h. rw (o.is (omega arith)) (shl_exact {a = 2 ^ j} (j + 1) 1 64 (pow-lt (omega arith)) (omega arith) ∙ sym (pow-add 2 j 1)) }

pub moved_one : (one : ℕ) → Moved one (one * 2 ^ 1 % 2 ^ 64)
moved_one one = record { is = one-moved one }

pub one_small : (one j : ℕ) → One one j → j < 64 → one ≤ 2 ^ 63
one_small one j o h = rw (o.is h) (pow_mono {i = j} {j = 63} (omega arith))

-- ---- the bits at which no span ends
bit_not : (w b : ℕ) → w < 2 ^ 64 → b < 64 → bit (2 ^ 64 - 1 - w) b ≡ not (bit w b)
bit_not w b h l = sym (shift_bit (2 ^ 64 - 1 - w) b) ∙ ap (λ (x : ℕ). eqb x 1) (bit_at_not w64 w b h l) ∙ told (w / 2 ^ b % 2) (omega arith) ∙ ap not (shift_bit w b)
  where
    told : (d : ℕ) → d < 2 → eqb (1 - d) 1 ≡ not (eqb d 1)
    told zero m = refl
    told (suc zero) m = refl
    told (suc (suc d)) m = absurd (omega arith)

pub inners : (w : ℕ) → w < 2 ^ 64 → Inner w (2 ^ 64 - 1 - bit_or w 0x8000000000000000)
inners w h =
    record {
      small = small_word _ (omega arith) (bit_not _ 63 fits (omega arith) ∙ rw (bit-or w 0x8000000000000000 63, bit_top-on) (ended (bit w 63)));
      is = λ b l. bit_not _ b fits (omega arith) ∙ rw (bit-or w 0x8000000000000000 b, bit_top b l) (ap not (or-false (bit w b)));
    }
  where
    fits : bit_or w 0x8000000000000000 < 2 ^ 64
    fits = or_lt 64 w 0x8000000000000000 h (omega arith)

    ended : (t : Bool) → not (t || true) ≡ false
    ended true = refl
    ended false = refl

-- ---- spans
off_again : (t u : Bool) → u ≡ not t → not u ≡ t
off_again true u e = rw e
off_again false u e = rw e

span_bit : (w rest j b : ℕ) → Inner w rest → b < 64 → bit (bit_xor (rest + 2 ^ j) rest) b ≡ (leb j b && none (bit w) j (b - j))
span_bit w rest j b i h = carry_bit j b rest ∙ go (leb j b) refl
  where
    go : (t : Bool) → leb j b ≡ t → (leb j b && none (off rest) j (b - j)) ≡ (leb j b && none (bit w) j (b - j))
    go false e = rw e
    go true e =
        ap (λ (t : Bool). leb j b && t)
        (none-same (off rest) (bit w) j (b - j) (λ x l m. off_again (bit w x) (bit rest x) (i.is x (omega (arith, leb-true j b e)))))

pub spans : (rest one : ℕ) → Spans rest one (bit_xor (rest + one) rest)
spans rest one = record { is = λ w j i o h. record { is = λ b l. rw (o.is h) (span_bit w rest j b i l) } }

-- ---- the last bit that is on
top_digit : (j w : ℕ) → 2 ^ j ≤ w → w < 2 ^ suc j → digit w j ≡ 1
unfolding digit
top_digit zero w h l = omega arith
top_digit (suc j) w h l = top_digit j (w / 2) (omega (arith, pow-suc 2 j)) (omega (arith, pow-suc 2 (suc j)))

since_top : (w j r : ℕ) → r ≡ suc j → r ≤ 64 → 2 ^ j ≤ w → w < 2 ^ suc j → Since w r
since_top w j r e far h l =
    record {
      most = far;
      last = λ some. let at : r - 1 ≡ j = omega arith in rw at (eq-eqb (digit w j) 1 (top_digit j w h l));
      none = λ some b m k. bit_past (suc j) w b l (omega arith);
    }

pub since_none : (w : ℕ) → Since w 0
since_none w = record { most = omega arith; last = λ some. absurd (omega arith); none = λ some. absurd (omega arith) }

pub since_is : (w : ℕ) → w < 2 ^ 64 → Since w (64 - count_leading_zeros 64 w)
since_is zero h = rw (leading_of_zero 64) (since_none 0)
since_is (suc v) h =
    let t = leading_top 64 (suc v) (omega arith) h in
    since_top (suc v) t.0 _ (omega (arith, t.1)) (omega arith) t.2 t.3

-- ---- by the last bit
pub masked_on : (w m : ℕ) (on : Bool) → on ≡ bit w 63 → on ≡ true → Masked w m m
masked_on w m on e t = record { is = λ b l. rw (sym e, t) }

pub masked_off : (w m : ℕ) (on : Bool) → on ≡ bit w 63 → on ≡ false → Masked w m 0
masked_off w m on e t = record { is = λ b l. bit-none b ∙ rw (sym e, t) }
