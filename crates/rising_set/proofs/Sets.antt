-- A set with a word in hand: a number put in, taken out, the lowest; the next word taken in hand.
use Prim.Native.Nat.{ℕ, ◌+◌, ◌*◌, ◌^◌, ◌/◌, ◌%◌, ◌<◌, ◌≤◌}
use mathlib.Core.Path.{◌≡◌, refl, sym, ap, ◌∙◌}
use mathlib.Core.Bool.{Bool, true, false}
use mathlib.Core.List.{List}
use native.Mathlib.Omega.{arith}
use lib.Dec.{eqb, ltb}
use lib.Bits.{bit_or, bit_xor}
use lib.ListN.{length, set, get_or, replicate, length-set, length-replicate, get_or-replicate, get_or-eq_default}
use lib.Seq.{get_or-set_same, get_or-set_other, set-set, set_comm, set-get_or}
use borrow.Author.Tests.{eq-eqb, ne_eqb, ltb-true, ltb-false}
use Rattle.word_bits.specs.Words.{digit}
use Rattle.word_bits.specs.Lowest.{Lowest as LowestBit}
use Rattle.word_bits.proofs.Digits.{digit_zero}
use Rattle.word_bits.proofs.OneBit.{put_here, put_other, drop_here, drop-other}
use Rattle.word_bits.proofs.LowestLaws.{lowest_digit, lower-digit}
use Rattle.rising_set.specs.declared.RisingSet.{RisingSet}
use Rattle.rising_set.specs.Members.{in_set, all, Rising, Empty, Put, Taken, Opened, Lowest}
use Rattle.rising_set.proofs.Bits.{same?, put_set, take-set, shifted}

-- a digit as the machine makes it
abbrev one : ℕ → ℕ
one b = (1 * 2 ^ b) % 2 ^ 64

abbrev in_hand : ℕ → ℕ → ℕ → RisingSet
in_hand a w h = record { at = a; word = w; held = h }

below? : {A : Type 0} (i p : ℕ) → (i < p → A) → (p ≤ i → A) → A
below? {A} i p f g = go (ltb i p) refl
  where
    go : (b : Bool) → ltb i p ≡ b → A
    go true e = f (ltb-true i p e)
    go false e = g (ltb-false i p e)

-- a number of another word, and of a word of which no digit is 1
other_word : (ws : List ℕ) (w v i : ℕ) → (i / 64 ≡ w → ⊥) → in_set (set ws w v) i ≡ in_set ws i
other_word ws w v i n = ap (λ (x : ℕ). eqb (digit x (i % 64)) 1) (get_or-set_other ws w (i / 64) v 0 n)

empty_word : (ws : List ℕ) (i : ℕ) → get_or ws (i / 64) 0 ≡ 0 → in_set ws i ≡ false
empty_word ws i e = rw (e, digit_zero (i % 64))

module _ {ws : List ℕ} {m : RisingSet} (g : Rising ws m) where
  in_place : get_or (all ws m) m.at 0 ≡ m.word
  in_place = get_or-set_same ws m.at m.word 0 (omega (arith, g.long, g.here))

  long_all : length (all ws m) ≡ 48
  long_all = length-set ws m.at m.word ∙ g.long

  pub put_in_hand : {k : ℕ} → k < 3072 → k / 64 ≡ m.at → Put ws m k ws (in_hand m.at (bit_or m.word (one (k % 64))) m.held)
  put_in_hand {k} h e =
      record {
        rising = record { long = g.long; here = g.here; low = g.low; later = g.later; rest = g.rest };
        added = record { so = λ i. rw (shifted (k % 64) (omega arith)) (sym (ap (λ ms. in_set ms i) stored) ∙ put_set (all ws m) k i (omega (arith, long_all))) };
        stays = refl;
      }
    where
      stored : set (all ws m) (k / 64) (bit_or (get_or (all ws m) (k / 64) 0) (1 * 2 ^ (k % 64))) ≡ set ws m.at (bit_or m.word (1 * 2 ^ (k % 64)))
      stored = rw (e, in_place) (set-set ws m.at m.word (bit_or m.word (1 * 2 ^ (k % 64))))

  pub put_later : {k : ℕ} → 64 * m.at ≤ k → k < 3072 → (k / 64 ≡ m.at → ⊥)
      → Put ws m k (set ws (k / 64) (bit_or (get_or ws (k / 64) 0) (one (k % 64)))) (in_hand m.at m.word (bit_or m.held (one (k / 64))))
  put_later {k} up h n =
      rw (shifted (k % 64) (omega arith), shifted (k / 64) (omega arith))
      record {
        rising =
            record {
              long = length-set ws (k / 64) v ∙ g.long;
              here = g.here;
              low = λ i l. other_word ws (k / 64) v i (λ z. n (omega arith)) ∙ g.low i l;
              later = λ w d.
                  same? w (k / 64)
                  (λ e. (omega (arith, above), omega arith, λ z. filled (sym (ap (λ x. get_or (set ws (k / 64) v) x 0) e ∙ get_or-set_same ws (k / 64) v 0 (omega (arith, g.long))) ∙ z)))
                  (λ o. let old = g.later w (sym (put_other m.held (k / 64) w (λ z. o (sym z))) ∙ d) in
                  (old.0, old.1, λ z. old.2 (sym (get_or-set_other ws (k / 64) w v 0 o) ∙ z)));
              rest = λ w a d.
                  same? w (k / 64)
                  (λ e. absurd (omega (arith, put_here m.held (k / 64), ap (digit (bit_or m.held (1 * 2 ^ (k / 64)))) e, d)))
                  (λ o. get_or-set_other ws (k / 64) w v 0 o ∙ g.rest w a (sym (put_other m.held (k / 64) w (λ z. o (sym z))) ∙ d));
            };
        added = record { so = λ i. ap (λ ms. in_set ms i) (sym stored) ∙ put_set (all ws m) k i (omega (arith, long_all)) };
        stays = refl;
      }
    where
      v : ℕ
      v = bit_or (get_or ws (k / 64) 0) (1 * 2 ^ (k % 64))

      above : m.at < k / 64
      above = omega (arith, n)

      filled : v ≡ 0 → ⊥
      filled z = absurd (omega (arith, sym (put_here (get_or ws (k / 64) 0) (k % 64)) ∙ ap (λ x. digit x (k % 64)) z ∙ digit_zero (k % 64)))

      stored : set (all ws m) (k / 64) (bit_or (get_or (all ws m) (k / 64) 0) (1 * 2 ^ (k % 64))) ≡ set (set ws (k / 64) v) m.at m.word
      stored = rw (get_or-set_other ws m.at (k / 64) m.word 0 n) (set_comm ws m.at (k / 64) m.word v (λ z. n (sym z)))

  -- nothing is left
  pub opened-none : m.word ≡ 0 → m.held ≡ 0 → Opened ws m ws m
  opened-none e h = record { rising = g; same = record { so = λ i. refl }; empty = λ z. record { none = nothing } }
    where
      nothing : (i : ℕ) → in_set (all ws m) i ≡ false
      nothing i =
          same? (i / 64) m.at
          (λ q. empty_word (all ws m) i (ap (λ x. get_or (all ws m) x 0) q ∙ in_place ∙ e))
          (λ n. other_word ws m.at m.word i n ∙ beyond n)
        where
          beyond : (i / 64 ≡ m.at → ⊥) → in_set ws i ≡ false
          beyond n =
              below? (i / 64) m.at (λ l. g.low i (omega arith))
              (λ l. empty_word ws i (g.rest (i / 64) (omega arith) (ap (λ x. digit x (i / 64)) h ∙ digit_zero (i / 64))))

  pub opened-here : (m.word ≡ 0 → ⊥) → Opened ws m ws m
  opened-here n = record { rising = g; same = record { so = λ i. refl }; empty = λ z. absurd (n z) }

  -- the lowest word held is taken in hand
  pub opened-next : {w : ℕ} → m.word ≡ 0 → LowestBit m.held w → Opened ws m (set ws w 0) (in_hand w (get_or ws w 0) (bit_xor m.held (one w)))
  opened-next {w} e d =
      let is = g.later w (lowest_digit d) in
      rw (shifted w d.low)
      record {
        rising =
            record {
              long = length-set ws w 0 ∙ g.long;
              here = is.1;
              low = λ i l.
                  same? (i / 64) w
                  (λ q. empty_word (set ws w 0) i (ap (λ x. get_or (set ws w 0) x 0) q ∙ get_or-set_same ws w 0 0 (omega (arith, g.long, is.1))))
                  (λ n. other_word ws w 0 i n
                  ∙ below? m.at (i / 64) (λ a. empty_word ws i (g.rest (i / 64) a (lower-digit d (i / 64) (omega arith)))) (λ a. g.low i a));
              later = λ v o.
                  same? v w
                  (λ q. absurd (omega (arith, drop_here m.held w (lowest_digit d), ap (digit (bit_xor m.held (1 * 2 ^ w))) q, o)))
                  (λ n. let held : digit m.held v ≡ 1 = sym (drop-other m.held w v (λ z. n (sym z))) ∙ o in
                  let old = g.later v held in
                  (below? v w (λ l. absurd (omega (arith, lower-digit d v l, held))) (λ l. omega (arith, n)), old.1, λ z. old.2 (sym (get_or-set_other ws w v 0 0 n) ∙ z)));
              rest = λ v a o.
                  let n : v ≡ w → ⊥ = λ z. omega arith in
                  get_or-set_other ws w v 0 0 n ∙ g.rest v (omega (arith, is.0)) (sym (drop-other m.held w v (λ z. n (sym z))) ∙ o);
            };
        same = record { so = alike };
        empty = λ z. absurd (is.2 z);
      }
    where
      alike : (i : ℕ) → in_set (set (set ws w 0) w (get_or ws w 0)) i ≡ in_set (all ws m) i
      alike i =
          ap (λ ms. in_set ms i) (set-set ws w 0 (get_or ws w 0) ∙ set-get_or ws w 0)
          ∙ same? (i / 64) m.at
          (λ q. g.low i (omega arith) ∙ sym (empty_word (all ws m) i (ap (λ x. get_or (all ws m) x 0) q ∙ in_place ∙ e)))
          (λ n. sym (other_word ws m.at m.word i n))

  -- the lowest of the word in hand is the lowest of all
  module _ {k : ℕ} (l : Lowest m k) where
    pub lowest_in : in_set (all ws m) k ≡ true
    lowest_in = eq-eqb _ 1 (ap (λ x. digit x (k % 64)) (ap (λ x. get_or (all ws m) x 0) l.place ∙ in_place) ∙ l.here)

    pub lowest_small : k < 3072
    lowest_small = omega (arith, l.place, g.here)

    pub lowest_first : (i : ℕ) → i < k → in_set (all ws m) i ≡ false
    lowest_first i h =
        same? (i / 64) m.at
        (λ q. let same : digit (get_or (all ws m) (i / 64) 0) (i % 64) ≡ 0 = ap (λ x. digit x (i % 64)) (ap (λ x. get_or (all ws m) x 0) q ∙ in_place) ∙ l.low (i % 64) (omega (arith, l.place)) in
        ne_eqb (digit (get_or (all ws m) (i / 64) 0) (i % 64)) 1 (λ z. omega (arith, same)))
        (λ n. other_word ws m.at m.word i n ∙ g.low i (omega (arith, l.place)))

pub lowest_is : {m : RisingSet} {d : ℕ} → m.at < 48 → LowestBit m.word d → Lowest m (m.at * 64 + d)
lowest_is {m} {d} h l =
    let q : (m.at * 64 + d) / 64 ≡ m.at = omega (arith, l.low) in
    let r : (m.at * 64 + d) % 64 ≡ d = omega (arith, l.low) in
    record { place = q; here = rw r (lowest_digit l); low = λ c o. lower-digit l c (omega arith) }

pub taken : {m : RisingSet} {k : ℕ} → k / 64 ≡ m.at → digit m.word (k % 64) ≡ 1 → Taken m k (in_hand m.at (bit_xor m.word (one (k % 64))) m.held)
taken {m} {k} e d =
    rw (shifted (k % 64) (omega arith))
    record {
      stays = refl;
      removed = λ ws g.
          record {
            so = λ i.
                ap (λ ms. in_set ms i) (sym (stored ws g))
                ∙ take-set (all ws m) k i (omega (arith, long_all g, g.here)) (eq-eqb _ 1 (ap (λ x. digit x (k % 64)) (ap (λ x. get_or (all ws m) x 0) e ∙ in_place g) ∙ d));
          };
      rising = λ ws g. record { long = g.long; here = g.here; low = g.low; later = g.later; rest = g.rest };
    }
  where
    stored : (ws : List ℕ) → Rising ws m → set (all ws m) (k / 64) (bit_xor (get_or (all ws m) (k / 64) 0) (1 * 2 ^ (k % 64))) ≡ set ws m.at (bit_xor m.word (1 * 2 ^ (k % 64)))
    stored ws g = rw (e, in_place g) (set-set ws m.at m.word (bit_xor m.word (1 * 2 ^ (k % 64))))

-- a set with nothing in it
module _ {m : RisingSet} (a : m.at ≡ 0) (w : m.word ≡ 0) (h : m.held ≡ 0) where
  blank : List ℕ
  blank = replicate 48 0

  zeros : (w : ℕ) → get_or blank w 0 ≡ 0
  unfolding blank
  zeros w = below? w 48 (λ l. get_or-replicate {A = ℕ} 48 w 0 0 l) (λ l. get_or-eq_default blank 0 {n = w} (omega (arith, length-replicate {A = ℕ} 48 0)))

  pub rising_none : Rising (replicate 48 0) m
  unfolding blank
  rising_none =
      record {
        long = length-replicate {A = ℕ} 48 0;
        here = omega arith;
        low = λ i l. empty_word (replicate 48 0) i (zeros (i / 64));
        later = λ v d. absurd (omega (arith, sym d ∙ ap (λ x. digit x v) h ∙ digit_zero v));
        rest = λ v l d. zeros v;
      }

  pub empty_none : Empty (all (replicate 48 0) m)
  empty_none = (opened-none rising_none w h).empty w
