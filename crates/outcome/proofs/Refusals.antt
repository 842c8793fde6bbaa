-- Which numbers refusals have: a chain of questions refuses with such a number alone if each of its questions does.
use Prim.Native.Nat.{ℕ}
use mathlib.Core.Path.{◌≡◌}
use mathlib.Core.Bool.{Bool, true, false}
use lib.Dec.{leb}
use Rattle.outcome.specs.Outcome.{Outcome, given, refused, unfit, need, room, ◌>>◌}

module _ (P : ℕ → Type 0) where
  abbrev pub Asks : {A : Type 0} → Outcome A → Type 0
  Asks (given a) = Unit {0}
  Asks (refused number place) = P number
  Asks (unfit number place) = P number

  pub asks-need : (b : Bool) (number place : ℕ) → P number → Asks (need b number place)
  asks-need true number place h = tt
  asks-need false number place h = h

  pub asks_then : {A B : Type 0} (o : Outcome A) (q : Outcome B) → Asks o → Asks q → Asks (o >> q)
  asks_then (given a) q h i = i
  asks_then (refused k p) q h i = h
  asks_then (unfit k p) q h i = h

  pub asks-room : {A : Type 0} (needed long : ℕ) (rest : Outcome A) → P 9 → Asks rest → Asks (room needed long >> rest)
  asks-room needed long rest h i = asks_then (room needed long) rest (asks-need (leb needed long) 9 needed h) i

  pub asked : {A : Type 0} (o : Outcome A) → Asks o → (k p : ℕ) → o ≡ refused k p → P k
  asked o h k p e = rw e at h
