-- What the judgement keeps: what is asked of one item and what is still to be asked.
use Rattle.std.specs.Prelude.{ℕ, zero, suc, ◌<◌, ◌≡◌, Bool, true, false, not, ◌||◌, List, [], ltb, leb, ℤ, pos, length, drop, get_or}
use Rattle.std.proofs.Math.Option.{Option, none, some}
use Rattle.std.specs.Int.Signed.{le_z}
use Rattle.outcome.specs.Outcome.{Outcome, given, need, ◌>>◌}
use Rattle.lines.specs.Lines.{Crossing, crossings, low, high, falls, ordered}
use Rattle.lines.specs.AtIndex.{item}

-- the crossing before the i-th
abbrev pub prior : List ℕ → List ℤ → List ℕ → ℕ → Option Crossing
prior ls ps ss zero = none
prior ls ps ss (suc i) = some (item ls ps ss i)

-- the i-th falls behind the one before it: its shape does not matter
unfoldable pub falls_at : List ℕ → List ℤ → ℕ → Bool
falls_at ls ps i = falls (prior ls ps [] i) (item ls ps [] i)

abbrev pub at_mark : ℤ → Bool
at_mark p = le_z p low || le_z high p

-- 10, 15 and 11 of the i-th
unfoldable pub asked_at : ℕ → ℕ → List ℕ → List ℤ → List ℕ → ℕ → Outcome (Unit {0})
asked_at names rows ls ps ss i = do
  need (ltb (get_or ss i 0) names) 10 i
  need (not (at_mark (get_or ps i (pos 0)) || leb rows (get_or ls i 0))) 15 i
  need (not (falls_at ls ps i)) 11 i

-- 10, 15 and 11 from the i-th on
unfoldable pub ordered_from : ℕ → ℕ → List ℕ → List ℤ → List ℕ → ℕ → Outcome (Unit {0})
ordered_from names rows ls ps ss i = ordered names rows (prior ls ps ss i) i (drop i (crossings ls ps ss))

-- an item that is there, and not the first
pub record Later (ls : List ℕ) (ps : List ℤ) (i : ℕ) : Type 0 where
  pub after : 0 < i
  pub line_there : i < length ls
  pub place_there : i < length ps

-- nothing is found only if none of the first n, but for the first, falls or is at an end mark
pub record NoneStray (ls : List ℕ) (ps : List ℤ) (n : ℕ) (found : Bool) : Type 0 where
  pub each : found ≡ false → (i : ℕ) → 0 < i → i < n → (falls_at ls ps i || at_mark (get_or ps i (pos 0))) ≡ false

-- r says that nothing is wrong with any item, and is not wrong then
pub record AllFine (names rows : ℕ) (ls : List ℕ) (ps : List ℤ) (ss : List ℕ) (r : Bool) : Type 0 where
  pub fine : r ≡ true → ordered_from names rows ls ps ss 0 ≡ given tt
