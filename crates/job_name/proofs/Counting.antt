-- The names of a fittings sheet counted: so many are left from an offset on, and with those counted they are all.
use Prim.Native.Nat.{ℕ, zero, suc, ◌+◌, ◌≤◌, ◌<◌}
use native.Mathlib.Omega.{arith}
use mathlib.Core.Path.{◌≡◌}
use mathlib.Core.List.{List}
use lib.ListN.{length}
use Rattle.sheet.specs.Sheet.{past_at}
use Rattle.sheet.specs.Walk.{walk_end}
use Rattle.sheet.proofs.Names.{walk_on}
use Rattle.job_name.specs.Within.{Whole}

pub record Counting (f : List ℕ) (m at n : ℕ) : Type 0 where
  pub left : ℕ
  pub ends : walk_end f at left ≡ length f
  pub all : n + left ≡ m
  pub few : m ≤ 256

pub count-start : (f : List ℕ) (m : ℕ) → Whole f m → Counting f m 5 0
count-start f m w = record { left = m; ends = w.ends; all = omega arith; few = w.few }

-- a name takes three bytes at least
far : (f : List ℕ) (at n : ℕ) → at + 3 ≤ walk_end f at (suc n)
unfolding walk_end past_at
far f at n = omega (arith, walk_on f (past_at f at) n)

module _ (f : List ℕ) (m at n : ℕ) where
  by_left : (l : ℕ) → walk_end f at l ≡ length f → n + l ≡ m → m ≤ 256 → at < length f → (e : ℕ) → e ≡ past_at f at → Counting f m e (n + 1)
  unfolding walk_end
  by_left zero ends all few more e is = absurd (omega arith)
  by_left (suc l) ends all few more e is = record { left = l; ends = rw is ends; all = omega arith; few = few }

  some_left : (l : ℕ) → walk_end f at l ≡ length f → at < length f → past_at f at ≤ length f
  unfolding walk_end
  some_left zero ends more = absurd (omega arith)
  some_left (suc l) ends more = omega (arith, walk_on f (past_at f at) l)

  none_left : (l : ℕ) → walk_end f at l ≡ length f → n + l ≡ m → length f ≤ at → n ≡ m
  none_left zero ends all done = omega arith
  none_left (suc l) ends all done = absurd (omega (arith, far f at l))

  module _ (c : Counting f m at n) where
    pub count-inside : at < length f → past_at f at ≤ length f
    count-inside more = some_left c.left c.ends more

    pub count_few : at < length f → n < 257
    count_few more = omega (arith, c.all, c.few)

    pub count_next : (e : ℕ) → at < length f → e ≡ past_at f at → Counting f m e (n + 1)
    count_next e more is = by_left c.left c.ends c.all c.few more e is

    pub count-done : length f ≤ at → n ≡ m
    count-done done = none_left c.left c.ends c.all done
