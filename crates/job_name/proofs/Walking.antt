-- The walk over a sheet's names, name by name: where it ends, and that it never goes back.
use Prim.Native.Nat.{ℕ, zero, suc, ◌+◌, ◌-◌, ◌≤◌, ◌<◌}
use native.Mathlib.Omega.{arith}
use native.Mathlib.Numerals.{add-one}
use mathlib.Core.Path.{◌≡◌, sym, ◌∙◌}
use mathlib.Core.List.{List}
use lib.ListN.{length}
use borrow.Author.Tests.{lt-ltb, le-ltb}
use Rattle.outcome.specs.Outcome.{given, refused}
use Rattle.sheet.specs.Sheet.{past_at}
use Rattle.sheet.specs.Walk.{walk_end}
use Rattle.sheet.proofs.Names.{walk_on}
use Rattle.job_name.specs.Naming.{stand}
use Rattle.job_name.specs.Within.{Held, placed_in}

pub walk_inside : (s : List ℕ) (at n : ℕ) → 0 < n → walk_end s at n ≤ length s → past_at s at ≤ length s
unfolding walk_end
walk_inside s at zero h k = absurd (omega arith)
walk_inside s at (suc n) h k = omega (arith, walk_on s (past_at s at) n)

-- one name less is left, e being the offset past it
module _ (s : List ℕ) (at n e : ℕ) (some : 0 < n) (is : e ≡ past_at s at) where
  next_end : walk_end s at n ≡ walk_end s e (n - 1)
  unfolding walk_end
  next_end = by n some
    where
      by : (i : ℕ) → 0 < i → walk_end s at i ≡ walk_end s e (i - 1)
      by zero h = absurd (omega arith)
      by (suc i) h = let k : suc i - 1 ≡ i = omega arith in rw (k, is)

  pub walk_less : walk_end s at n ≤ length s → walk_end s e (n - 1) ≤ length s
  walk_less h = omega (arith, next_end, h)

  pub walk_same : (all : ℕ) → all ≡ walk_end s at n → all ≡ walk_end s e (n - 1)
  walk_same all h = h ∙ next_end

pub walk_done : (s : List ℕ) (at n all : ℕ) → n ≤ 0 → all ≡ walk_end s at n → at ≡ all
unfolding walk_end
walk_done s at zero all h e = sym e
walk_done s at (suc n) all h e = absurd (omega arith)

pub walk_within : (s : List ℕ) (at n : ℕ) → walk_end s at n ≤ length s → at ≤ length s
walk_within s at n h = omega (arith, walk_on s at n)

pub walk_rises : (s : List ℕ) (at i j : ℕ) → i ≤ j → walk_end s at i ≤ walk_end s at j
unfolding walk_end
walk_rises s at zero j h = walk_on s at j
walk_rises s at (suc i) zero h = absurd (omega arith)
walk_rises s at (suc i) (suc j) h = walk_rises s (past_at s at) i j (omega arith)

-- ---- the names that are held

module _ (f : List ℕ) (m : ℕ) (s : List ℕ) (n : ℕ) (held : Held f m s n) (k : ℕ) where
  pub fitting_held : k < m → walk_end f 5 k ≤ length f
  fitting_held h = omega (arith, walk_rises f 5 k m (omega arith), held.fittings_inside)

  pub fitting_next : k < m → walk_end f 5 (k + 1) ≤ length f
  fitting_next h = omega (arith, walk_rises f 5 (k + 1) m (omega arith), held.fittings_inside)

  pub own_held : (i : ℕ) → k < m + n → m ≤ k → i ≡ k - m → walk_end s 5 i ≤ length s
  own_held i h l e = omega (arith, walk_rises s 5 i n (omega arith), held.inside)

  pub own-next : (i : ℕ) → k < m + n → m ≤ k → i ≡ k - m → walk_end s 5 (i + 1) ≤ length s
  own-next i h l e = omega (arith, walk_rises s 5 (i + 1) n (omega arith), held.inside)

module _ (f : List ℕ) (m : ℕ) (s : List ℕ) (n k : ℕ) where
  pub fitting_placed : (at e : ℕ) → k < m + n → k < m → at ≡ walk_end f 5 k → e ≡ walk_end f 5 (k + 1) → given (stand 1 (at + 3) e) ≡ placed_in f m s n k
  fitting_placed at e h l p q = rw (lt-ltb k (m + n) h, lt-ltb k m l, p, q, add-one k)

  pub own-placed : (i at e : ℕ) → k < m + n → m ≤ k → i ≡ k - m → at ≡ walk_end s 5 i → e ≡ walk_end s 5 (i + 1) → given (stand 2 (at + 3) e) ≡ placed_in f m s n k
  own-placed i at e h l j p q = rw (lt-ltb k (m + n) h, le-ltb k m l, p, q, j, add-one (k - m))
