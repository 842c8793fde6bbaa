-- Which columns are their line's last.
use Prim.Native.Nat.{ℕ, ◌*◌, ◌/◌, ◌%◌, ◌^◌, ◌<◌}
use native.Mathlib.Omega.{arith}
use mathlib.Core.Path.{◌≡◌, refl, sym, ◌∙◌}
use mathlib.Core.Bool.{Bool, true, false, ◌&&◌, ◌||◌, cond, or-false}
use mathlib.Core.List.{List}
use borrow.Author.Tests.{eqb-true, eqb-false, eq-eqb, ne_eqb}
use lib.Bits.{bit_or}
use lib.Dec.{eqb}
use lib.ListN.{length, set}
use lib.Seq.{get_or-set_same, get_or-set_other}
use Rattle.word_bits.specs.Words.{bit}
use Rattle.line_lists.specs.Block.{wide, columns, cell}
use Rattle.word_bits.proofs.Digits.{bit-or, bit-none}
use Rattle.word_bits.proofs.OneBit.{one_bit}
use Rattle.line_columns.specs.Planning.{LastPut}

-- ---- one bit put in

flag_bit : (last : Bool) (w b d : ℕ) → w ≡ cond last 1 0 → d < 64 → bit (w * 2 ^ b % 2 ^ 64) d ≡ (eqb d b && last)
flag_bit true w b d e h = rw e (one_bit b d h ∙ sym (and_yes (eqb d b)))
  where
    and_yes : (t : Bool) → (t && true) ≡ t
    and_yes true = refl
    and_yes false = refl
flag_bit false w b d e h = rw e (off ∙ sym (and_no (eqb d b)))
  where
    and_no : (t : Bool) → (t && false) ≡ false
    and_no true = refl
    and_no false = refl

    off : bit (0 * 2 ^ b % 2 ^ 64) d ≡ false
    off = let z : 0 * 2 ^ b % 2 ^ 64 ≡ 0 = omega arith in rw z (bit-none d)

pub last_put : (w f c : ℕ) (last : Bool) → f ≡ cond last 1 0 → LastPut w (bit_or w (f * 2 ^ (c % 64) % 18446744073709551616)) c last
last_put w f c last e = record { same = same; here = here }
  where
    new : ℕ
    new = bit_or w (f * 2 ^ (c % 64) % 18446744073709551616)

    bit-new : (d : ℕ) → d < 64 → bit new d ≡ (bit w d || (eqb d (c % 64) && last))
    bit-new d k = bit-or w (f * 2 ^ (c % 64) % 2 ^ 64) d ∙ rw (flag_bit last f (c % 64) d e k)

    same : (d : ℕ) → d < 64 → (d ≡ c % 64 → ⊥) → bit new d ≡ bit w d
    same d k ne = bit-new d k ∙ rw (ne_eqb d (c % 64) ne) (or-false (bit w d))

    here : bit w (c % 64) ≡ false → bit new (c % 64) ≡ last
    here off = bit-new (c % 64) (omega arith) ∙ rw (off, eq-eqb (c % 64) (c % 64) refl)

-- ---- a word among the others

module _ (lasts : List ℕ) (k w j : ℕ) where
  cell-within : k < length lasts → j / 64 ≡ k → cell (set lasts k w) j ≡ bit w (j % 64)
  unfolding cell
  cell-within h e = rw (e, get_or-set_same lasts k w 0 h)

  pub cell_without : (j / 64 ≡ k → ⊥) → cell (set lasts k w) j ≡ cell lasts j
  unfolding cell
  cell_without ne = rw (get_or-set_other lasts k (j / 64) w 0 ne)

-- the same list, with the word as it was and as it is
module _ (lasts : List ℕ) (w w' c : ℕ) (last : Bool) (long : length lasts ≡ wide) (h : c < columns) (put : LastPut w w' c last) where
  pub cell_same : (j : ℕ) → (j ≡ c → ⊥) → cell (set lasts (c / 64) w') j ≡ cell (set lasts (c / 64) w) j
  cell_same j ne = by (eqb (j / 64) (c / 64)) refl
    where
      by : (t : Bool) → eqb (j / 64) (c / 64) ≡ t → cell (set lasts (c / 64) w') j ≡ cell (set lasts (c / 64) w) j
      by true e =
          let word : j / 64 ≡ c / 64 = eqb-true (j / 64) (c / 64) e in
          let there : c / 64 < length lasts = omega arith in
          cell-within lasts (c / 64) w' j there word ∙ put.same (j % 64) (omega arith) (λ z. ne (omega (arith, word, z))) ∙ sym (cell-within lasts (c / 64) w j there word)
      by false e =
          let other : (j / 64 ≡ c / 64 → ⊥) = eqb-false (j / 64) (c / 64) e in
          cell_without lasts (c / 64) w' j other ∙ sym (cell_without lasts (c / 64) w j other)

  pub cell-here : bit w (c % 64) ≡ false → cell (set lasts (c / 64) w') c ≡ last
  cell-here off = cell-within lasts (c / 64) w' c (omega arith) refl ∙ put.here off
