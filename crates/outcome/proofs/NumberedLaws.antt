-- A chain of questions has numbered refusals if each of its questions has.
use Prim.Native.Nat.{ℕ, ◌<◌}
use native.Mathlib.Omega.{arith}
use mathlib.Core.Path.{◌≡◌, refl}
use mathlib.Core.Bool.{Bool, true, false, cond}
use lib.Dec.{leb}
use Rattle.outcome.specs.Outcome.{Outcome, given, refused, unfit, need, room, ◌>>◌, ◌>>=◌, part, of_fittings}
use Rattle.outcome.specs.Numbered.{Numbered}

pub given-numbered : {A : Type 0} (a : A) → Numbered (given a)
given-numbered a = record { above_0 = λ number place e. let z : ◌≡◌ {A = ℕ} 0 1 = cc in absurd (omega arith); unfit_above_0 = λ number place e. let z : ◌≡◌ {A = ℕ} 0 1 = cc in absurd (omega arith) }

pub refused-numbered : {A : Type 0} (k p : ℕ) → 0 < k → Numbered {A = A} (refused k p)
refused-numbered k p some =
    record { above_0 = λ number place e. let same : k ≡ number = cc in omega arith; unfit_above_0 = λ number place e. let z : ◌≡◌ {A = ℕ} 0 1 = cc in absurd (omega arith) }

unfit-numbered : {A : Type 0} (k p : ℕ) → 0 < k → Numbered {A = A} (unfit k p)
unfit-numbered k p some =
    record { above_0 = λ number place e. let z : ◌≡◌ {A = ℕ} 0 1 = cc in absurd (omega arith); unfit_above_0 = λ number place e. let same : k ≡ number = cc in omega arith }

pub need-numbered : (b : Bool) (k p : ℕ) → 0 < k → Numbered (need b k p)
need-numbered true k p some = given-numbered tt
need-numbered false k p some = refused-numbered k p some

-- one question more
pub asks : {A : Type 0} (b : Bool) (k p : ℕ) (rest : Outcome A) → 0 < k → Numbered rest → Numbered (need b k p >> rest)
asks true k p rest some h = h
asks false k p rest some h = refused-numbered k p some

pub room-asks : {A : Type 0} (needed long : ℕ) (rest : Outcome A) → Numbered rest → Numbered (room needed long >> rest)
room-asks needed long rest h = asks (leb needed long) 9 needed rest (omega arith) h

module _ {A B : Type 0} where
  pub then_numbered : (o : Outcome A) (q : Outcome B) → Numbered o → Numbered q → Numbered (o >> q)
  then_numbered (given a) q h i = i
  then_numbered (refused k p) q h i = refused-numbered k p (h.above_0 k p refl)
  then_numbered (unfit k p) q h i = unfit-numbered k p (h.unfit_above_0 k p refl)

  pub bind_numbered : (o : Outcome A) (f : A → Outcome B) → Numbered o → ((a : A) → Numbered (f a)) → Numbered (o >>= f)
  bind_numbered (given a) f h i = i a
  bind_numbered (refused k p) f h i = refused-numbered k p (h.above_0 k p refl)
  bind_numbered (unfit k p) f h i = unfit-numbered k p (h.unfit_above_0 k p refl)

  pub part-numbered : (f : A → B) (o : Outcome A) → Numbered o → Numbered (part f o)
  part-numbered f (given a) h = given-numbered (f a)
  part-numbered f (refused k p) h = refused-numbered k p (h.above_0 k p refl)
  part-numbered f (unfit k p) h = unfit-numbered k p (h.unfit_above_0 k p refl)

pub cond-numbered : {A : Type 0} (b : Bool) (o q : Outcome A) → Numbered o → Numbered q → Numbered (cond b o q)
cond-numbered true o q h i = h
cond-numbered false o q h i = i

pub fittings-numbered : {A : Type 0} (o : Outcome A) → Numbered o → Numbered (of_fittings o)
fittings-numbered (given a) h = given-numbered a
fittings-numbered (refused k p) h = unfit-numbered k p (h.above_0 k p refl)
fittings-numbered (unfit k p) h = unfit-numbered k p (h.unfit_above_0 k p refl)
