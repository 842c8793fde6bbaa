-- The two inequalities of a root fix the greatest number whose square is not above n.
use mathlib.Core.Path.{◌≡◌, refl, sym, ap, ◌∙◌}
use Prim.Native.Nat.{ℕ, zero, suc, ◌+◌, ◌*◌, ◌<◌, ◌≤◌}
use native.Mathlib.Nat.{mul-le-mul, eq-or-lt_of_le, suc-mul, mul-suc}
use mathlib.Core.Logic.{◌⊎◌, inl, inr}
use native.Mathlib.Omega.{arith}
use native.Mathlib.Numerals.{add-one}
use mathlib.Core.Bool.{Bool, true, false}
use lib.Dec.{leb}
use borrow.Author.Tests.{leb-true, leb-false}
use Rattle.cross_root.specs.Root.{greatest, Root}

here : (k n : ℕ) → leb (suc k * suc k) n ≡ true → greatest (suc k) n ≡ suc k
unfolding greatest
here k n e = rw (e, greatest)

next : (k n : ℕ) → leb (suc k * suc k) n ≡ false → greatest (suc k) n ≡ greatest k n
unfolding greatest
next k n e = rw (e, greatest)

squares : (a b : ℕ) → a ≤ b → a * a ≤ b * b
squares a b h = mul-le-mul h h

-- a number that meets both is the greatest up to any bound that it keeps
pub is_greatest : (k r n : ℕ) → r ≤ k → r * r ≤ n → n < (r + 1) * (r + 1) → r ≡ greatest k n
unfolding greatest
is_greatest zero r n h p q = omega arith
is_greatest (suc k) r n h p q = go (leb (suc k * suc k) n) refl (eq-or-lt_of_le h) (is_greatest k r n)
  where
    go : (t : Bool) → leb (suc k * suc k) n ≡ t → (r ≡ suc k) ⊎ (r < suc k) → (r ≤ k → r * r ≤ n → n < (r + 1) * (r + 1) → r ≡ greatest k n) → r ≡ greatest (suc k) n
    go true e (inl f) ih = f ∙ sym (here k n e)
    go true e (inr f) ih =
        let a : suc k * suc k ≤ n = leb-true (suc k * suc k) n e in
        let b : (r + 1) * (r + 1) ≤ suc k * suc k = squares (r + 1) (suc k) (omega arith) in
        absurd (omega arith)
    go false e (inl f) ih =
        let a : n < suc k * suc k = leb-false (suc k * suc k) n e in
        let b : r * r ≡ suc k * suc k = ap (λ (x : ℕ). x * x) f in
        absurd (omega arith)
    go false e (inr f) ih = ih (omega arith) p q ∙ sym (next k n e)

-- a root of a number that is not above k squared is not above k
pub root_within : (k r n : ℕ) → n ≤ k * k → r * r ≤ n → r ≤ k
root_within k r n h p = go (leb r k) refl
  where
    go : (t : Bool) → leb r k ≡ t → r ≤ k
    go true e = leb-true r k e
    go false e =
        let a : suc k ≤ r = leb-false r k e in
        let b : suc k * suc k ≤ r * r = squares (suc k) r a in
        let d : suc k * suc k ≡ k * k + k + k + 1 = simp (suc-mul, mul-suc) (omega arith) in
        absurd (omega arith)

-- and the greatest up to a bound whose square is not below n meets both
pub greatest_root : (k n : ℕ) → n < (k + 1) * (k + 1) → Root n (greatest k n)
unfolding greatest
greatest_root zero n h = record { below = omega arith; above = h }
greatest_root (suc k) n h = go (leb (suc k * suc k) n) refl (greatest_root k n)
  where
    go : (t : Bool) → leb (suc k * suc k) n ≡ t → (n < (k + 1) * (k + 1) → Root n (greatest k n)) → Root n (greatest (suc k) n)
    go true e ih = rw (here k n e) (record { below = leb-true (suc k * suc k) n e; above = h })
    go false e ih =
        let l : n < suc k * suc k = leb-false (suc k * suc k) n e in
        rw (next k n e) (ih (rw add-one l))

pub greatest-le : (k n : ℕ) → greatest k n ≤ k
unfolding greatest
greatest-le zero n = omega arith
greatest-le (suc k) n = go (leb (suc k * suc k) n) (greatest-le k n)
  where
    go : (t : Bool) → greatest k n ≤ k → elim t [ true ↦ suc k | false ↦ greatest k n ] ≤ suc k
    go true h = omega arith
    go false h = omega arith
