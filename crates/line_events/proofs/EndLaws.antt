-- Crossings one after another, each the last at its position.
use Prim.Native.Nat.{ℕ, ◌+◌, ◌≤◌, ◌<◌}
use native.Mathlib.Omega.{arith}
use mathlib.Core.Path.{◌≡◌, refl, sym, ◌∙◌}
use mathlib.Core.Bool.{Bool, true, false, not, cond, ◌||◌, false≢true}
use mathlib.Core.List.{List}
use borrow.Author.Tests.{ne_eqb}
use lib.Bits.{bit_or, or_add_and, and_le_l, and_le_r}
use mir.Val.{bool_byte}
use lib.Dec.{eqb}
use lib.IntN.{ℤ, pos}
use lib.ListN.{length, get_or}
use lib.Signed.{lt_z}
use Rattle.lines.specs.AtIndex.{group_ends_at}
use Rattle.line_events.specs.Noted.{rises_at, AllHold}
use Rattle.line_strips.proofs.Stores.{same?}

none_yet : (holds : Bool) → bool_byte (not holds) ≡ 0 → holds ≡ true
none_yet true h = refl
none_yet false h = absurd (omega arith)

-- of what is asked from i on, what is before x holds if no flag was seen
pub record HoldTo (holds : ℕ → Type 0) (i some x : ℕ) : Type 0 where
  pub is : some ≡ 0 → (z : ℕ) → i ≤ z → z < x → holds z

module _ (holds : ℕ → Type 0) (i : ℕ) where
  pub hold_none : HoldTo holds i 0 i
  hold_none = record { is = λ q z lo hi. absurd (omega arith) }

  pub hold_more : (some x : ℕ) (r : Bool) (n : ℕ) → HoldTo holds i some x → n ≡ bool_byte (not r) → (r ≡ true → holds x) → HoldTo holds i (bit_or some n) (x + 1)
  hold_more some x r n t says here =
      record {
        is = λ none z lo hi.
            same? z x
            (λ q. rw q (here (none_yet r (sym says ∙ omega (arith, or_add_and some n, and_le_l some n)))))
            (λ q. t.is (omega (arith, or_add_and some n, and_le_r some n)) z lo (omega arith));
      }

pub rises_there : (ps : List ℤ) (i : ℕ) → lt_z (get_or ps i (pos 0)) (get_or ps (i + 1) (pos 0)) ≡ rises_at ps i
unfolding rises_at
rises_there ps i = refl

pub ends_there : (ls : List ℕ) (ps : List ℤ) (i : ℕ) (r : Bool) → i + 1 < length ls → r ≡ rises_at ps i → (not (eqb (get_or ls (i + 1) 0) (get_or ls i 0)) || r) ≡ group_ends_at ls ps i
unfolding rises_at
ends_there ls ps i r h is = rw (ne_eqb (i + 1) (length ls) (λ q. omega arith), is)

-- a position below the next is the last there, whatever the lines
rises_ends : (ls : List ℕ) (ps : List ℤ) (i : ℕ) → rises_at ps i ≡ true → group_ends_at ls ps i ≡ true
unfolding rises_at
rises_ends ls ps i h = rw h (by (eqb (i + 1) (length ls)) (eqb (get_or ls (i + 1) 0) (get_or ls i 0)))
  where
    by : (p q : Bool) → cond p true (not q || true) ≡ true
    by true q = refl
    by false true = refl
    by false false = refl

pub hold_not : (holds : ℕ → Bool) (i e : ℕ) → AllHold holds i e false
hold_not holds i e = record { each = λ t. absurd (false≢true t) }

-- what is told of each from i to e, by an answer that is what is asked
pub all_rise : (ls : List ℕ) (ps : List ℤ) (i e : ℕ) (told : Bool) → (told ≡ true → (x : ℕ) → i ≤ x → x < e → true ≡ rises_at ps x) → AllHold (group_ends_at ls ps) i e told
all_rise ls ps i e told r = record { each = λ t x lo hi. rises_ends ls ps x (sym (r t x lo hi)) }

pub all_end : (ls : List ℕ) (ps : List ℤ) (i e : ℕ) (told : Bool) → (told ≡ true → (x : ℕ) → i ≤ x → x < e → true ≡ group_ends_at ls ps x) → AllHold (group_ends_at ls ps) i e told
all_end ls ps i e told r = record { each = λ t x lo hi. sym (r t x lo hi) }
