-- A set of words after a store of one of them with another digit.
use Prim.Native.Nat.{ℕ, ◌*◌, ◌^◌, ◌/◌, ◌%◌, ◌<◌}
use mathlib.Core.Path.{◌≡◌, refl, sym, ap, ◌∙◌}
use mathlib.Core.Bool.{Bool, true, false, not, ◌&&◌, ◌||◌, or-false, and-true}
use mathlib.Core.List.{List}
use native.Mathlib.Decide.{ℕ_discrete}
use native.Mathlib.Omega.{arith}
use lib.Dec.{eqb}
use lib.Bits.{bit_or, bit_xor}
use lib.ListN.{length, set, get_or}
use lib.Seq.{get_or-set_same, get_or-set_other}
use lib.Pow.{shl_exact}
use borrow.Author.Tests.{eq-eqb, ne_eqb, eqb-true}
use Rattle.word_bits.specs.Words.{digit}
use Rattle.word_bits.proofs.OneBit.{put_here, put_other, drop_here, drop-other}
use Rattle.rising_set.specs.Members.{in_set}

-- by whether two numbers are one
pub same? : {A : Type 0} (i p : ℕ) → (i ≡ p → A) → ((i ≡ p → ⊥) → A) → A
same? i p f g = elim (ℕ_discrete i p) [ yes e ↦ f e | no n ↦ g n ]

or_one : (x : Bool) → (x || true) ≡ true
or_one true = refl
or_one false = refl

and_none : (x : Bool) → (x && false) ≡ false
and_none true = refl
and_none false = refl

-- the word of k stored with another digit: of the numbers only k is another matter
store_other : (ws : List ℕ) (k i v : ℕ) → k / 64 < length ws → ((c : ℕ) → (k % 64 ≡ c → ⊥) → digit v c ≡ digit (get_or ws (k / 64) 0) c) → (i ≡ k → ⊥) → in_set (set ws (k / 64) v) i ≡ in_set ws i
store_other ws k i v l same n =
    same? (i / 64) (k / 64)
    (λ e.
    ap (λ (x : ℕ). eqb x 1)
    (ap (λ (x : ℕ). digit x (i % 64)) (ap (λ (w : ℕ). get_or (set ws (k / 64) v) w 0) e ∙ get_or-set_same ws (k / 64) v 0 l) ∙
    same (i % 64) (λ q. n (omega arith)) ∙ ap (λ (w : ℕ). digit (get_or ws w 0) (i % 64)) (sym e)))
    (λ m. ap (λ (x : ℕ). eqb (digit x (i % 64)) 1) (get_or-set_other ws (k / 64) (i / 64) v 0 m))

store_here : (ws : List ℕ) (k v : ℕ) → k / 64 < length ws → in_set (set ws (k / 64) v) k ≡ eqb (digit v (k % 64)) 1
store_here ws k v l = ap (λ (x : ℕ). eqb (digit x (k % 64)) 1) (get_or-set_same ws (k / 64) v 0 l)

pub put_set : (ws : List ℕ) (k i : ℕ) → k / 64 < length ws → in_set (set ws (k / 64) (bit_or (get_or ws (k / 64) 0) (1 * 2 ^ (k % 64)))) i ≡ (in_set ws i || eqb i k)
put_set ws k i l =
    let x = get_or ws (k / 64) 0 in
    same? i k
    (λ e. rw (e, eq-eqb k k refl) (store_here ws k (bit_or x (1 * 2 ^ (k % 64))) l ∙ eq-eqb _ 1 (put_here x (k % 64)) ∙ sym (or_one (in_set ws k))))
    (λ n. store_other ws k i (bit_or x (1 * 2 ^ (k % 64))) l (λ c q. put_other x (k % 64) c q) n ∙ rw (ne_eqb i k n) (sym (or-false (in_set ws i))))

pub take-set : (ws : List ℕ) (k i : ℕ) → k / 64 < length ws → in_set ws k ≡ true → in_set (set ws (k / 64) (bit_xor (get_or ws (k / 64) 0) (1 * 2 ^ (k % 64)))) i ≡ (in_set ws i && not (eqb i k))
take-set ws k i l h =
    let x = get_or ws (k / 64) 0 in
    same? i k
    (λ e. rw (e, eq-eqb k k refl)
    (store_here ws k (bit_xor x (1 * 2 ^ (k % 64))) l ∙ ne_eqb (digit (bit_xor x (1 * 2 ^ (k % 64))) (k % 64)) 1 (λ q. omega (arith, drop_here x (k % 64) (eqb-true (digit x (k % 64)) 1 h))) ∙ sym (and_none (in_set ws k))))
    (λ n. store_other ws k i (bit_xor x (1 * 2 ^ (k % 64))) l (λ c q. drop-other x (k % 64) c q) n ∙ rw (ne_eqb i k n) (sym (and-true (in_set ws i))))

-- a digit as the machine makes it
pub shifted : (b : ℕ) → b < 64 → (1 * 2 ^ b) % 2 ^ 64 ≡ 1 * 2 ^ b
shifted b h = shl_exact 1 b 64 (omega arith) (omega arith)
