-- The lowest number at which two states differ: where they differ there is one, and there is only one.
use Prim.Native.Nat.{ℕ, zero, suc, ◌+◌, ◌<◌, ◌≤◌}
use native.Mathlib.Decide.{dec_lt}
use native.Mathlib.Omega.{arith}
use mathlib.Core.Path.{◌≡◌, refl, fun_ext}
use mathlib.Core.Bool.{Bool, true, false, beq, true≢false, false≢true}
use mathlib.Core.Logic.{◌⊎◌, inl, inr}
use Rattle.formula.specs.States.{State}
use Rattle.lines.specs.Lines.{lowest_from}
use Rattle.lines.specs.Right.{LowestChanged}

beq_same : (a b : Bool) → beq a b ≡ true → a ≡ b
beq_same true true e = refl
beq_same true false e = absurd (false≢true e)
beq_same false true e = absurd (false≢true e)
beq_same false false e = refl

beq_other : (a b : Bool) → beq a b ≡ false → a ≡ b → ⊥
beq_other true true e k = true≢false e
beq_other true false e k = true≢false k
beq_other false true e k = false≢true k
beq_other false false e k = true≢false e

lowest_on : (a b : State) (k n : ℕ) → beq (a n) (b n) ≡ true → lowest_from (suc k) n a b ≡ lowest_from k (suc n) a b
unfolding lowest_from
lowest_on a b k n e = rw (e, lowest_from)

lowest_here : (a b : State) (k n : ℕ) → beq (a n) (b n) ≡ false → lowest_from (suc k) n a b ≡ n
unfolding lowest_from
lowest_here a b k n e = rw (e, lowest_from)

-- what the search from n on finds: the lowest, or that there is none up to n + k
abbrev Finds : State → State → ℕ → ℕ → Type 0
Finds a b m s = ((s < m) × LowestChanged a b s) ⊎ ((s ≡ 65535) × ((t : ℕ) → t < m → a t ≡ b t))

finds_from : (a b : State) (k n : ℕ) → ((t : ℕ) → t < n → a t ≡ b t) → Finds a b (n + k) (lowest_from k n a b)
unfolding lowest_from
finds_from a b zero n h = inr (refl, λ t l. h t (omega arith))
finds_from a b (suc k) n h = by (beq (a n) (b n)) refl (finds_from a b k (suc n))
  where
    same-to : a n ≡ b n → (t : ℕ) → t < suc n → a t ≡ b t
    same-to e t l = at (dec_lt t n)
      where
        at : Dec (t < n) → a t ≡ b t
        at (yes q) = h t q
        at (no q) = let z : t ≡ n = omega arith in rw z e

    by : (c : Bool) → beq (a n) (b n) ≡ c → (((t : ℕ) → t < suc n → a t ≡ b t) → Finds a b (suc n + k) (lowest_from k (suc n) a b)) → Finds a b (n + suc k) (lowest_from (suc k) n a b)
    by true e ih =
        let z : suc n + k ≡ n + suc k = omega arith in
        rw (lowest_on a b k n e) (rw z at (ih (same-to (beq_same (a n) (b n) e))))
    by false e ih = rw (lowest_here a b k n e) (inl (omega arith, record { changed = beq_other (a n) (b n) e; lowest = h }))

finds : (a b : State) → Finds a b 256 (lowest_from 256 0 a b)
finds a b = finds_from a b 256 0 (λ t l. absurd (omega arith))

-- where some state below 256 differs, the search finds the lowest
pub lowest_found : (a b : State) → ((t : ℕ) → 256 ≤ t → a t ≡ b t) → (a ≡ b → ⊥) → LowestChanged a b (lowest_from 256 0 a b)
lowest_found a b far h = by (lowest_from 256 0 a b) (finds a b)
  where
    by : (s : ℕ) → Finds a b 256 s → LowestChanged a b s
    by s (inl l) = l.1
    by s (inr n) = absurd (h (fun_ext (λ t. at t (dec_lt t 256))))
      where
        at : (t : ℕ) → Dec (t < 256) → a t ≡ b t
        at t (yes q) = n.1 t q
        at t (no q) = far t (omega arith)

pub lowest_only : (a b : State) (s t : ℕ) → LowestChanged a b s → LowestChanged a b t → s ≡ t
lowest_only a b s t p q = by (dec_lt s t) (dec_lt t s)
  where
    by : Dec (s < t) → Dec (t < s) → s ≡ t
    by (yes h) d = absurd (p.changed (q.lowest s h))
    by (no h) (yes k) = absurd (q.changed (p.lowest t k))
    by (no h) (no k) = omega arith

-- what is the lowest, or that there is none below 256, is what the search finds
pub lowest_is : (a b : State) (s : ℕ) → s < 256 → LowestChanged a b s → lowest_from 256 0 a b ≡ s
lowest_is a b s h p = by (lowest_from 256 0 a b) (finds a b)
  where
    by : (t : ℕ) → Finds a b 256 t → t ≡ s
    by t (inl q) = lowest_only a b t s q.1 p
    by t (inr n) = absurd (p.changed (n.1 s h))

pub lowest_none : (a b : State) → ((t : ℕ) → t < 256 → a t ≡ b t) → lowest_from 256 0 a b ≡ 65535
lowest_none a b same = by (lowest_from 256 0 a b) (finds a b)
  where
    by : (t : ℕ) → Finds a b 256 t → t ≡ 65535
    by t (inl q) = absurd (q.1.changed (same t q.0))
    by t (inr n) = n.0
