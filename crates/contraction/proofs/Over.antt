-- A record stands over its children: they are below it where children have smaller numbers, and it uses each of them.
use Prim.Native.Nat.{ℕ, ◌+◌, ◌<◌, ◌≤◌}
use native.Mathlib.Omega.{arith}
use mathlib.Core.Path.{◌≡◌, refl, ap}
use mathlib.Core.Bool.{Bool, true, false, cond, false≢true}
use mathlib.Core.List.{List, [], ◌∷◌}
use lib.Dec.{eqb}
use borrow.Author.Tests.{eqb-true}
use Rattle.formula.specs.States.{times}
use Rattle.contraction.specs.Records.{Rec, children, listed, over}
use Rattle.contraction.specs.Terms.{AllBelow, ChildrenBelow, refs}

listed_below : (cs : List ℕ) (n c : ℕ) → AllBelow n cs → listed c cs ≡ true → c < n
listed_below [] n c b e = absurd (false≢true e)
listed_below (d ∷ ds) n c b e = go (eqb c d) refl (listed_below ds n c b.1)
  where
    go : (t : Bool) → eqb c d ≡ t → (listed c ds ≡ true → c < n) → c < n
    go true q ih = omega (arith, eqb-true c d q, b.0)
    go false q ih = ih (rw q at e)

pub over_below : (r : Rec) (n c : ℕ) → ChildrenBelow n r → over c r ≡ true → c < n
over_below r n c b e = listed_below (children r) n c b e

listed-times : (cs : List ℕ) (c : ℕ) → listed c cs ≡ true → 1 ≤ times c cs
unfolding times
listed-times [] c e = absurd (false≢true e)
listed-times (d ∷ ds) c e = go (eqb c d) refl (listed-times ds c)
  where
    go : (t : Bool) → eqb c d ≡ t → (listed c ds ≡ true → 1 ≤ times c ds) → 1 ≤ cond (eqb c d) 1 0 + times c ds
    go true q ih = rw q (omega arith)
    go false q ih = rw q (omega (arith, ih (rw q at e)))

pub over-refs : (r : Rec) (c : ℕ) → over c r ≡ true → 1 ≤ refs c r
over-refs r c e = listed-times (children r) c e

times-listed : (cs : List ℕ) (c : ℕ) → 1 ≤ times c cs → listed c cs ≡ true
unfolding times
times-listed [] c h = absurd (omega arith)
times-listed (d ∷ ds) c h = go (eqb c d) refl (times-listed ds c)
  where
    go : (t : Bool) → eqb c d ≡ t → (1 ≤ times c ds → listed c ds ≡ true) → listed c (d ∷ ds) ≡ true
    go true q ih = rw q
    go false q ih = rw q (ih (omega (arith, ap {B = ℕ} (λ b. cond b 1 0) q)))

pub refs-over : (r : Rec) (c : ℕ) → 1 ≤ refs c r → over c r ≡ true
refs-over r c h = times-listed (children r) c h
