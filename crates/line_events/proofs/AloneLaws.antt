-- A word where each column stands alone.
use Prim.Native.Nat.{ℕ, zero, suc, ◌+◌, ◌-◌, ◌*◌, ◌≤◌, ◌<◌}
use native.Mathlib.Numerals.{add-one}
use native.Mathlib.Omega.{arith}
use mathlib.Core.Path.{◌≡◌, refl, sym, ap, ◌∙◌}
use mathlib.Core.Bool.{Bool, true, false, not, ◌&&◌, ◌||◌}
use mathlib.Core.List.{List, ◌++◌, append_assoc, append-nil}
use lib.Bits.{bit_and, bit_or, bit_xor}
use Rattle.formula.specs.Formula.{exclusive, meaning}
use Rattle.word_bits.specs.Words.{bit}
use Rattle.line_lists.specs.Block.{columns}
use Rattle.line_events.specs.Events.{events_at, metal_after, events_after}
use Rattle.line_events.specs.Noted.{Noted, GoesOn, Before, FirstOn, some_if, said_events, WordPart, WordAlone, SweptAlone}
use Rattle.line_events.specs.declared.Found.{Found}
use Rattle.word_bits.proofs.Digits.{bit-and, bit-or, bit-xor}
use Rattle.line_events.proofs.ListedLaws.{events_more, metal_more}
use Rattle.line_events.proofs.SaidLaws.{said_zero, said_more, said_few, said_skip}

-- of the columns that are there: those that say something else than what is before them, and line ends that are on
abbrev changes_in : ℕ → ℕ → ℕ → ℕ
changes_in w p there = bit_and (bit_xor w p) there

abbrev opens_in : ℕ → ℕ → ℕ → ℕ
opens_in w y there = bit_and (bit_and w y) there

said_there : (w y p t k m : ℕ) → FirstOn m t → m ≤ 64 → said_events (changes_in w p t) (opens_in w y t) k 64 ≡ said_events (changes_in w p t) (opens_in w y t) k m
said_there w y p t k m there h = said_skip (changes_in w p t) (opens_in w y t) k (64 - m) m 64 (omega arith) off
  where
    none : (a b : Bool) → ((a && false) || (b && false)) ≡ false
    none true true = refl
    none true false = refl
    none false true = refl
    none false false = refl

    off : (i : ℕ) → m ≤ i → i < 64 → bit (bit_or (changes_in w p t) (opens_in w y t)) i ≡ false
    off i lo hi = bit-or (changes_in w p t) (opens_in w y t) i ∙ rw (bit-and (bit_xor w p) t i, bit-and (bit_and w y) t i, there.off i lo) (none (bit (bit_xor w p) i) (bit (bit_and w y) i))

module _ (ends bits last : ℕ → Bool) (metal : Bool) (w y k e p : ℕ) (m : Bool) (word : WordAlone ends bits last w y k e) (before : Before w y m p) (left : m ≡ metal_after ends bits last metal (64 * k)) (t : ℕ) (there : FirstOn (e - 64 * k) t) where
  metal-past : (b : ℕ) → b < 64 → 64 * k + b < e → metal_after ends bits last metal (suc (64 * k + b)) ≡ (not (bit y b) && bit w b)
  metal-past b l h = metal_more ends bits last metal (64 * k + b) ∙ rw (word.alone (64 * k + b) (omega arith) h, word.word b l, word.line_ends b l)

  metal_there : (b : ℕ) → b < 64 → 64 * k + b < e → bit p b ≡ metal_after ends bits last metal (64 * k + b)
  metal_there zero l h = let z : 64 * k + 0 ≡ 64 * k = omega arith in rw z (before.first ∙ left)
  metal_there (suc b) l h =
      let z : 64 * k + suc b ≡ suc (64 * k + b) = omega arith in
      rw z ((rw (add-one b) at (before.next b (omega arith))) ∙ sym (metal-past b (omega arith) (omega arith)))

  said_here : (b : ℕ) → b < 64 → 64 * k + b < e
      → events_at (ends (64 * k + b)) (bits (64 * k + b)) (last (64 * k + b)) (metal_after ends bits last metal (64 * k + b)) (64 * k + b) ≡ some_if (bit (changes_in w p t) b) (64 * k + b) ++ some_if (bit (opens_in w y t) b) (columns + (64 * k + b))
  said_here b l h =
      rw (word.alone (64 * k + b) (omega arith) h, word.word b l, word.line_ends b l, sym (metal_there b l h), bit-and (bit_xor w p) t b, bit-and (bit_and w y) t b, there.on b (omega arith), bit-xor w p b, bit-and w y b)
      (by (bit w b) (bit y b) (bit p b))
    where
      by : (now end was : Bool) → events_at true now end was (64 * k + b) ≡ some_if (meaning exclusive now was && true) (64 * k + b) ++ some_if ((now && end) && true) (columns + (64 * k + b))
      by true true true = refl
      by true true false = refl
      by true false true = refl
      by true false false = refl
      by false true true = refl
      by false true false = refl
      by false false true = refl
      by false false false = refl

  said_are : (n : ℕ) → n ≤ 64 → 64 * k + n ≤ e → events_after ends bits last metal (64 * k + n) ≡ events_after ends bits last metal (64 * k) ++ said_events (changes_in w p t) (opens_in w y t) k n
  said_are zero l h =
      let z : 64 * k + 0 ≡ 64 * k = omega arith in
      rw (z, said_zero (changes_in w p t) (opens_in w y t) k) (sym (append-nil (events_after ends bits last metal (64 * k))))
  said_are (suc n) l h =
      let z : 64 * k + suc n ≡ suc (64 * k + n) = omega arith in
      let old : List ℕ = events_after ends bits last metal (64 * k) in
      let new : List ℕ = some_if (bit (changes_in w p t) n) (64 * k + n) ++ some_if (bit (opens_in w y t) n) (columns + (64 * k + n)) in
      rw (z, said_more (changes_in w p t) (opens_in w y t) k n)
      (events_more ends bits last metal (64 * k + n) ∙ rw (said_are n (omega arith) (omega arith), said_here n (omega arith) (omega arith)) (append_assoc old (said_events (changes_in w p t) (opens_in w y t) k n) new))

pub swept_alone : {w y k e p t g : ℕ} {on : Bool} {events events' : List ℕ} {f : Found} {count : ℕ} → WordPart k e → Before w y f.metal p → FirstOn (e - 64 * k) t → Noted (said_events (changes_in w p t) (opens_in w y t) k 64) f.count events count events' → GoesOn w y g → on ≡ bit g (e - 1 - 64 * k)
    → SweptAlone w y k e events f events' (record { metal = on; count = count })
swept_alone {w} {y} {k} {e} {p} {t} {g} {on} {events} {events'} {f} {count} part before there all goes is =
    let noted : Noted (said_events (changes_in w p t) (opens_in w y t) k (e - 64 * k)) f.count events count events' = rw (said_there w y p t k (e - 64 * k) there (omega (arith, part.inside))) at all in
    record {
      swept = λ ends bits last metal word old.
          let end : 64 * k + (e - 64 * k) ≡ e = omega (arith, part.some) in
          let one : suc (64 * k + (e - 1 - 64 * k)) ≡ e = omega (arith, part.some) in
          let same : events_after ends bits last metal (64 * k + (e - 64 * k)) ≡ events_after ends bits last metal (64 * k) ++ said_events (changes_in w p t) (opens_in w y t) k (e - 64 * k) = said_are ends bits last metal w y k e p f.metal word before old.left t there (e - 64 * k) (omega (arith, part.inside)) (omega (arith, part.some)) in
          let past : metal_after ends bits last metal (suc (64 * k + (e - 1 - 64 * k))) ≡ (not (bit y (e - 1 - 64 * k)) && bit w (e - 1 - 64 * k)) = metal-past ends bits last metal w y k e p f.metal word before old.left t there (e - 1 - 64 * k) (omega (arith, part.inside, part.some)) (omega (arith, part.some)) in
          record {
            few = omega (arith, old.few, noted.count, said_few (changes_in w p t) (opens_in w y t) k (e - 64 * k), part.some);
            sized = noted.sized ∙ old.sized;
            are = noted.are ∙ ap (λ (xs : List ℕ). xs ++ said_events (changes_in w p t) (opens_in w y t) k (e - 64 * k)) old.are ∙ sym (rw end at same);
            left = is ∙ goes.says (e - 1 - 64 * k) ∙ sym (rw one at past);
          };
    }
