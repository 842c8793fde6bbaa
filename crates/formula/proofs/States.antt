-- The states one toggle at a time are the states by oddness.
use Prim.Native.Nat.{ℕ, suc, ◌+◌}
use native.Mathlib.Omega.{arith}
use mathlib.Core.Path.{◌≡◌, refl, ◌∙◌, fun_ext}
use mathlib.Core.Bool.{Bool, true, false, not, cond}
use mathlib.Core.List.{List, [], ◌∷◌, ◌++◌}
use lib.Dec.{eqb}
use borrow.Author.Tests.{eq-eqb, ne_eqb}
use Rattle.formula.specs.States.{State, outside, odd, times, toggled_by, changed_by, flipped}
use Rattle.formula.specs.Flips.{after}

-- a state in which the shapes of a list were toggled: changed where the list has the shape an odd number of times
abbrev changed : Bool → Bool → Bool
changed a b = cond a (not b) b

changed_not : (a b : Bool) → changed a (not b) ≡ changed (not a) b
changed_not true true = refl
changed_not true false = refl
changed_not false b = refl

one_more : (t s : ℕ) (b : Bool) (n : ℕ) (v : Bool) → eqb t s ≡ b → changed (odd n) (cond b (not v) v) ≡ changed (odd (cond b 1 0 + n)) v
one_more t s true n v e = let h : 1 + n ≡ suc n = omega arith in changed_not (odd n) v ∙ rw h
one_more t s false n v e = let h : 0 + n ≡ n = omega arith in rw h

after-changed : (ss : List ℕ) (state : State) (t : ℕ) → after state ss t ≡ changed (odd (times t ss)) (state t)
unfolding after times
after-changed [] state t = refl
after-changed (s ∷ ss) state t = after-changed ss (flipped s state) t ∙ one_more t s (eqb t s) (times t ss) (state t) refl

changed_false : (a : Bool) → changed a false ≡ a
changed_false true = refl
changed_false false = refl

pub after-changed_by : (ss : List ℕ) (state : State) → after state ss ≡ changed_by state ss
after-changed_by ss state = fun_ext (λ t. after-changed ss state t)

pub after-outside : (ss : List ℕ) (t : ℕ) → after outside ss t ≡ toggled_by ss t
after-outside ss t = after-changed ss outside t ∙ changed_false _

-- after some toggles, and then more of them
pub after-append : (ss us : List ℕ) (state : State) (t : ℕ) → after state (ss ++ us) t ≡ after (after state ss) us t
unfolding after
after-append [] us state t = refl
after-append (s ∷ ss) us state t = after-append ss us (flipped s state) t

-- ---- one toggle

pub flipped-here : (s : ℕ) (state : State) → flipped s state s ≡ not (state s)
flipped-here s state = rw (eq-eqb s s refl)

pub flipped-other : (s t : ℕ) (state : State) → (t ≡ s → ⊥) → flipped s state t ≡ state t
flipped-other s t state n = rw (ne_eqb t s n)

pub after_snoc : (state : State) (ss : List ℕ) (s t : ℕ) → after state (ss ++ (s ∷ [])) t ≡ flipped s (after state ss) t
unfolding after
after_snoc state ss s t = after-append ss (s ∷ []) state t
