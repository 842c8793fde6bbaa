-- A chain of questions that gives something: each was answered yes, and the rest gives it.
use mathlib.Core.Path.{◌≡◌, refl, sym}
use mathlib.Core.Bool.{Bool, true, false}
use Prim.Native.Nat.{ℕ}
use native.Mathlib.Omega.{arith}
use Rattle.outcome.specs.Outcome.{Outcome, given, refused, unfit, need, ◌>>◌, ◌>>=◌, part, of_fittings}

pub need-given : {A : Type 0} (b : Bool) (k p : ℕ) (o : Outcome A) (v : A) → (need b k p >> o) ≡ given v → (b ≡ true) × (o ≡ given v)
need-given true k p o v e = (refl, e)
need-given false k p o v e = let z : ◌≡◌ {A = ℕ} 0 1 = cc in absurd (omega arith)

pub need_yes : (b : Bool) (k p : ℕ) {u : Unit {0}} → need b k p ≡ given u → b ≡ true
need_yes true k p h = refl
need_yes false k p h = let z : ◌≡◌ {A = ℕ} 0 1 = cc in absurd (omega arith)

pub then_given : {A B : Type 0} (q : Outcome B) (o : Outcome A) (v : A) → (q >> o) ≡ given v → (u : B) × (q ≡ given u) × (o ≡ given v)
then_given (given u) o v e = (u, refl, e)
then_given (refused k p) o v e = let z : ◌≡◌ {A = ℕ} 0 1 = cc in absurd (omega arith)
then_given (unfit k p) o v e = let z : ◌≡◌ {A = ℕ} 0 1 = cc in absurd (omega arith)

pub bind_given : {A B : Type 0} (o : Outcome A) (f : A → Outcome B) (v : B) → (o >>= f) ≡ given v → (a : A) × (o ≡ given a) × (f a ≡ given v)
bind_given (given a) f v e = (a, refl, e)
bind_given (refused k p) f v e = let z : ◌≡◌ {A = ℕ} 0 1 = cc in absurd (omega arith)
bind_given (unfit k p) f v e = let z : ◌≡◌ {A = ℕ} 0 1 = cc in absurd (omega arith)

pub given-same : {A : Type 0} (a b : A) → given a ≡ given b → a ≡ b
given-same a b e = cc

-- ---- what is given or refused, from a part of it

pub part-given : {A B : Type 0} (f : A → B) (o : Outcome A) (w : B) → given w ≡ part f o → (v : A) × (o ≡ given v) × (f v ≡ w)
part-given f (given v) w h = (v, refl, sym (given-same _ _ h))
part-given f (refused k p) w h = let z : ◌≡◌ {A = ℕ} 0 1 = cc in absurd (omega arith)
part-given f (unfit k p) w h = let z : ◌≡◌ {A = ℕ} 0 1 = cc in absurd (omega arith)

pub part-refused : {A B : Type 0} (f : A → B) (o : Outcome A) (k p : ℕ) → refused k p ≡ part f o → o ≡ refused k p
part-refused f (given v) k p h = let z : ◌≡◌ {A = ℕ} 0 1 = cc in absurd (omega arith)
part-refused f (refused i q) k p h = let a : i ≡ k = cc in let b : q ≡ p = cc in rw (a, b)
part-refused f (unfit i q) k p h = let z : ◌≡◌ {A = ℕ} 0 1 = cc in absurd (omega arith)

pub part-unfit : {A B : Type 0} (f : A → B) (o : Outcome A) (k p : ℕ) → unfit k p ≡ part f o → o ≡ unfit k p
part-unfit f (given v) k p h = let z : ◌≡◌ {A = ℕ} 0 1 = cc in absurd (omega arith)
part-unfit f (refused i q) k p h = let z : ◌≡◌ {A = ℕ} 0 1 = cc in absurd (omega arith)
part-unfit f (unfit i q) k p h = let a : i ≡ k = cc in let b : q ≡ p = cc in rw (a, b)

-- ---- what is asked of a fittings sheet

pub fittings-given : {A : Type 0} (o : Outcome A) (v : A) → of_fittings o ≡ given v → o ≡ given v
fittings-given (given a) v h = h
fittings-given (refused k p) v h = let z : ◌≡◌ {A = ℕ} 0 1 = cc in absurd (omega arith)
fittings-given (unfit k p) v h = let z : ◌≡◌ {A = ℕ} 0 1 = cc in absurd (omega arith)
