-- Crossings alone: their lines' ends, a bit each, words of them, and how many a block takes.
use Prim.Native.Nat.{ℕ, zero, suc, ◌+◌, ◌-◌, ◌*◌, ◌/◌, ◌%◌, ◌^◌, ◌<◌, ◌≤◌}
use native.Mathlib.Omega.{arith}
use mathlib.Core.Path.{◌≡◌, refl, ◌∙◌}
use mathlib.Core.Bool.{Bool, true, false, not, cond, ◌||◌, or-false}
use mathlib.Core.List.{List}
use borrow.Author.Tests.{eqb-true, eqb-false, eq-eqb, ne_eqb, ltb-true, ltb-false}
use lib.Bits.{bit_or}
use lib.Dec.{eqb, ltb}
use lib.ListN.{get_or, length, set, length-set}
use lib.Seq.{get_or-set_same, get_or-set_other}
use Rattle.word_bits.specs.Words.{digit, bit}
use Rattle.line_bits.specs.Bits.{Since}
use Rattle.line_lists.specs.Block.{wide, columns, cell, SaidNumbered}
use Rattle.word_bits.proofs.Digits.{bit-or, bit-none, first_bit, second-bit}
use Rattle.word_bits.proofs.OneBit.{one_bit}
use Rattle.line_runs.specs.Runs.{over_at, last_of_line, ends_line, Ends, LineEnds, EndsNoted, Numbered, CutTo}

-- ---- a line that is over

module _ (ls : List ℕ) (l i : ℕ) where
  pub over_end : i ≡ length ls → true ≡ over_at ls l i
  unfolding over_at
  over_end e = rw (eq-eqb i (length ls) e)

  pub over_on : (w : ℕ) → (i ≡ length ls → ⊥) → w ≡ get_or ls i 0 → not (eqb w l) ≡ over_at ls l i
  unfolding over_at
  over_on w ne e = rw (ne_eqb i (length ls) ne, e)

pub last_is-over : (ls : List ℕ) (i : ℕ) → i + 1 < length ls → last_of_line ls i ≡ over_at ls (get_or ls i 0) (i + 1)
last_is-over ls i h = over_on ls (get_or ls i 0) (i + 1) (get_or ls (i + 1) 0) (λ e. omega arith) refl

-- ---- flags

-- the first k words of a run are noted
pub record NotedTo (ls : List ℕ) (i n : ℕ) (lasts : List ℕ) (k : ℕ) : Type 0 where
  pub few : k ≤ wide
  pub run : EndsNoted ls i n lasts (64 * k)

module _ (ls : List ℕ) where
  one_flag : (i : ℕ) (f : Bool) → f ≡ last_of_line ls i → Ends ls i 1 (cond f 1 0)
  unfolding digit
  one_flag i f e = record { on = λ t h. on f e t (omega arith); off = λ t h k. off f t h }
    where
      on : (f : Bool) → f ≡ last_of_line ls i → (t : ℕ) → t ≡ 0 → bit (cond f 1 0) t ≡ last_of_line ls (i + t)
      on true q t z = let s : i + 0 ≡ i = omega arith in rw (z, s) q
      on false q t z = let s : i + 0 ≡ i = omega arith in rw (z, s) q

      off : (f : Bool) (t : ℕ) → 1 ≤ t → bit (cond f 1 0) t ≡ false
      off true zero h = absurd (omega arith)
      off true (suc t) h = bit-none t
      off false t h = bit-none t

  pub ends_none : (i : ℕ) → Ends ls i 0 0
  ends_none i = record { on = λ t h. absurd (omega arith); off = λ t h k. bit-none t }

  -- m crossings more
  ends_join : (i k m a b : ℕ) → k + m ≤ 64 → Ends ls i k a → Ends ls (i + k) m b → Ends ls i (k + m) (bit_or a (b * 2 ^ k % 18446744073709551616))
  ends_join i k m a b few x y = record { on = on; off = off }
    where
      on : (t : ℕ) → t < k + m → bit (bit_or a (b * 2 ^ k % 2 ^ 64)) t ≡ last_of_line ls (i + t)
      on t h = by (ltb t k) refl
        where
          by : (u : Bool) → ltb t k ≡ u → bit (bit_or a (b * 2 ^ k % 2 ^ 64)) t ≡ last_of_line ls (i + t)
          by true e = first_bit a b k t (omega arith) (λ l. absurd (omega (arith, ltb-true t k e))) ∙ x.on t (ltb-true t k e)
          by false e =
              let far : k ≤ t = ltb-false t k e in
              let back : i + k + (t - k) ≡ i + t = omega arith in
              second-bit a b k t (t - k) (omega arith) (omega arith) (x.off t far (omega arith)) ∙ y.on (t - k) (omega arith) ∙ rw back

      off : (t : ℕ) → k + m ≤ t → t < 64 → bit (bit_or a (b * 2 ^ k % 2 ^ 64)) t ≡ false
      off t h l = second-bit a b k t (t - k) l (omega arith) (x.off t (omega arith) l) ∙ y.off (t - k) (omega arith) (omega arith)

  pub ends_more : (i t w b : ℕ) (f : Bool) → t < 64 → f ≡ last_of_line ls (i + t) → b ≡ cond f 1 0 → Ends ls i t w → Ends ls i (t + 1) (bit_or w (b * 2 ^ t % 18446744073709551616))
  ends_more i t w b f h e is x = rw is (ends_join i t 1 w (cond f 1 0) (omega arith) x (one_flag (i + t) f e))

  pub ends_eight : (i k w b : ℕ) → k < 8 → Ends ls i (8 * k) w → Ends ls (i + 8 * k) 8 b → Ends ls i (8 * (k + 1)) (bit_or w (b * 2 ^ (8 * k) % 18446744073709551616))
  ends_eight i k w b h x y = let more : 8 * k + 8 ≡ 8 * (k + 1) = omega arith in rw (← more) (ends_join i (8 * k) 8 w b (omega arith) x y)

  -- ---- the lines' ends among 64 crossings

  pub flags_ends : (i w : ℕ) → Ends ls i 64 w → 64 < length ls - i → LineEnds ls i w
  flags_ends i w e h = record { on = λ t k l. e.on t k ∙ last_is-over ls (i + t) (omega arith) }

  pub rest_ends : (i t w : ℕ) → t < 64 → i + t + 1 ≡ length ls → Ends ls i t w → LineEnds ls i (bit_or w (1 * 2 ^ t % 18446744073709551616))
  rest_ends i t w few far r = record { on = on }
    where
      or_yes : (b : Bool) → (b || true) ≡ true
      or_yes true = refl
      or_yes false = refl

      on : (u : ℕ) → u < 64 → i + u < length ls → bit (bit_or w (1 * 2 ^ t % 2 ^ 64)) u ≡ ends_line ls (i + u)
      on u k l = by (eqb u t) refl
        where
          by : (b : Bool) → eqb u t ≡ b → bit (bit_or w (1 * 2 ^ t % 2 ^ 64)) u ≡ ends_line ls (i + u)
          by true e = bit-or w (1 * 2 ^ t % 2 ^ 64) u ∙ rw (one_bit t u k, e) (or_yes (bit w u)) ∙ over_end ls (get_or ls (i + u) 0) (i + u + 1) (omega (arith, eqb-true u t e))
          by false e =
              bit-or w (1 * 2 ^ t % 2 ^ 64) u
              ∙ rw (one_bit t u k, e) (or-false (bit w u))
              ∙ r.on u (omega (arith, eqb-false u t e))
              ∙ last_is-over ls (i + u) (omega (arith, eqb-false u t e))

  -- ---- the words of a block

  pub run_none : (lasts : List ℕ) (i n : ℕ) → length lasts ≡ wide → NotedTo ls i n lasts 0
  run_none lasts i n e = record { few = omega arith; run = record { long = e; are = λ j h. absurd (omega arith) } }

  pub run_more : (lasts : List ℕ) (i n k w : ℕ) → NotedTo ls i n lasts k → n ≤ columns → i + n ≤ length ls → 64 * k < n → LineEnds ls (i + 64 * k) w → NotedTo ls i n (set lasts k w) (k + 1)
  unfolding cell
  run_more lasts i n k w r most there h e = record { few = omega arith; run = record { long = length-set lasts k w ∙ r.run.long; are = are } }
    where
      are : (j : ℕ) → j < 64 * (k + 1) → j < n → bit (get_or (set lasts k w) (j / 64) 0) (j % 64) ≡ ends_line ls (i + j)
      are j l m = by (eqb (j / 64) k) refl
        where
          by : (t : Bool) → eqb (j / 64) k ≡ t → bit (get_or (set lasts k w) (j / 64) 0) (j % 64) ≡ ends_line ls (i + j)
          by true f =
              let word : j / 64 ≡ k = eqb-true (j / 64) k f in
              let back : i + 64 * k + j % 64 ≡ i + j = omega (arith, word) in
              rw (word, get_or-set_same lasts k w 0 (omega (arith, r.run.long))) (e.on (j % 64) (omega arith) (omega (arith, word)) ∙ rw back)
          by false f = rw (get_or-set_other lasts k (j / 64) w 0 (eqb-false (j / 64) k f)) (r.run.are j (omega (arith, eqb-false (j / 64) k f)) m)

  pub run_word : (lasts : List ℕ) (i n k : ℕ) → NotedTo ls i n lasts k → n ≤ columns → 64 * k < n → k < length lasts
  run_word lasts i n k r most h = omega (arith, r.run.long)

  pub run_all : (lasts : List ℕ) (i n k : ℕ) → NotedTo ls i n lasts k → n ≤ 64 * k → EndsNoted ls i n lasts n
  run_all lasts i n k r h = record { long = r.run.long; are = λ j l m. r.run.are j (omega arith) m }

-- ---- up to a line's end

pub cut_none : (lasts : List ℕ) (n : ℕ) → CutTo lasts n n
cut_none lasts n = record { fewer = omega arith; some = λ h. h; ends = λ h. absurd (omega arith) }

pub cut_last : (lasts : List ℕ) (n j m : ℕ) → columns ≤ n → Since (get_or lasts 7 0) j → 0 < j → m ≡ 448 + j → CutTo lasts n m
unfolding cell
cut_last lasts n j m h s some e = record {
  fewer = omega (arith, s.most);
  some = λ k. omega arith;
  ends = λ k.
      let word : (m - 1) / 64 ≡ 7 = omega (arith, s.most) in
      let place : (m - 1) % 64 ≡ j - 1 = omega (arith, s.most) in
      rw (word, place) (s.last some);
}

-- ---- numbers

pub numbered_none : (cols : List ℕ) → length cols ≡ columns → Numbered cols 0
numbered_none cols e = record { long = e; alone = record { are = λ j h. absurd (omega arith) } }

pub numbered_more : (cols : List ℕ) (n : ℕ) → Numbered cols n → n < columns → Numbered (set cols n n) (n + 1)
numbered_more cols n r h = record { long = length-set cols n n ∙ r.long; alone = record { are = are } }
  where
    are : (j : ℕ) → j < n + 1 → get_or (set cols n n) j 0 ≡ j
    are j l = by (eqb j n) refl
      where
        by : (t : Bool) → eqb j n ≡ t → get_or (set cols n n) j 0 ≡ j
        by true e = rw (eqb-true j n e, get_or-set_same cols n n 0 (omega (arith, r.long)))
        by false e = get_or-set_other cols n j n 0 (eqb-false j n e) ∙ r.alone.are j (omega (arith, eqb-false j n e))

pub numbered_all : (cols : List ℕ) (n : ℕ) → Numbered cols n → columns ≤ n → Numbered cols columns
numbered_all cols n r h = record { long = r.long; alone = record { are = λ j l. r.alone.are j (omega arith) } }

pub numbered_said : (cols : List ℕ) (told : Bool) → length cols ≡ columns → SaidNumbered cols told → told ≡ true → Numbered cols columns
numbered_said cols told e s t = record { long = e; alone = s.are t }
