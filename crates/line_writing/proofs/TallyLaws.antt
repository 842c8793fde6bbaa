-- A byte a shape flipped at each crossing, and the least that is on.
use Prim.Native.Nat.{ℕ, zero, suc, ◌+◌, ◌≤◌, ◌<◌}
use Rattle.std.proofs.Common.{min}
use native.Mathlib.Decide.{dec_lt, dec_le}
use native.Mathlib.Numerals.{add-one}
use native.Mathlib.Omega.{arith}
use mathlib.Core.Path.{◌≡◌, refl, sym, ap, ◌∙◌, fun_ext, subst}
use mathlib.Core.Bool.{Bool, true, false, not, cond, true≢false, false≢true}
use mathlib.Core.List.{List, [], ◌∷◌}
use mathlib.Core.Logic.{◌⊎◌, inl, inr}
use borrow.Author.Tests.{eqb-true, eqb-false}
use lib.Dec.{eqb}
use lib.ListN.{length, get_or, set, take, replicate}
use lib.Seq.{get_or-set_same, get_or-set_other, take-suc, take_all, take-length}
use Rattle.formula.specs.States.{State, outside, flipped}
use Rattle.formula.specs.Flips.{after}
use Rattle.formula.proofs.States.{flipped-here, flipped-other, after_snoc}
use Rattle.lines.specs.Lines.{lowest_from}
use Rattle.lines.proofs.Lowest.{lowest_is, lowest_none}
use Rattle.line_writing.specs.Groups.{state_of, Tallied, FewShapes, Least}

-- ---- the bytes

-- a store of the other state
flipped-set : (a : List Bool) (s : ℕ) → s < length a → state_of (set a s (not (get_or a s false))) ≡ flipped s (state_of a)
flipped-set a s h = fun_ext (λ t. go t (eqb t s) refl)
  where
    go : (t : ℕ) (b : Bool) → eqb t s ≡ b → state_of (set a s (not (get_or a s false))) t ≡ flipped s (state_of a) t
    go t true q = subst (λ (u : ℕ). state_of (set a s (not (get_or a s false))) u ≡ flipped s (state_of a) u) (sym (eqb-true t s q)) (get_or-set_same a s (not (get_or a s false)) false h ∙ sym (flipped-here s (state_of a)))
    go t false q = rw (get_or-set_other a s t (not (get_or a s false)) false (eqb-false t s q), q)

false_at : (n s : ℕ) → ◌≡◌ {A = Bool} (get_or (replicate n false) s false) false
false_at zero s = refl
false_at (suc n) zero = refl
false_at (suc n) (suc s) = false_at n s

pub none_inside : (n : ℕ) → state_of (replicate n false) ≡ outside
none_inside n = fun_ext (λ s. false_at n s)

pub tally_start : {shapes : List ℕ} {odd : List Bool} → Tallied shapes 0 odd odd
unfolding after
tally_start = record { states = fun_ext (λ t. refl) }

pub tally_more : {shapes : List ℕ} {odd odd' : List Bool} {j s : ℕ} → Tallied shapes j odd odd' → length odd' ≡ 256 → s < 256 → j < length shapes → s ≡ get_or shapes j 0
    → Tallied shapes (j + 1) odd (set odd' s (not (get_or odd' s false)))
tally_more {shapes} {odd} {odd'} {j} {s} t long few h is = record { states = flipped-set odd' s (omega arith) ∙ ap (flipped s) t.states ∙ fun_ext (λ u. sym (on u)) }
  where
    on : (u : ℕ) → after (state_of odd) (take (j + 1) shapes) u ≡ flipped s (after (state_of odd) (take j shapes)) u
    on u = ap (λ (xs : List ℕ). after (state_of odd) xs u) (ap (λ (n : ℕ). take n shapes) (add-one j) ∙ take-suc shapes j 0 h) ∙ after_snoc (state_of odd) (take j shapes) (get_or shapes j 0) u ∙ rw is

pub tally_end : {shapes : List ℕ} {odd odd' : List Bool} {j : ℕ} → Tallied shapes j odd odd' → length shapes ≤ j → Tallied shapes (length shapes) odd odd'
tally_end {shapes} {j = j} t h = record { states = t.states ∙ rw (take_all j shapes h, take-length shapes) }

-- ---- the least

pub few_at : {shapes : List ℕ} {j s : ℕ} → FewShapes shapes → j < length shapes → s ≡ get_or shapes j 0 → s < 256
few_at {j = j} f h is = omega (arith, is, f.few j h)

pub least_start : {shapes : List ℕ} {state : State} → Least shapes 0 state 65535
least_start = record { among = λ k h. absurd (omega arith); on = inl refl }

pub least_more : {shapes : List ℕ} {state : State} {j r q s : ℕ} → Least shapes j state r → s ≡ get_or shapes j 0 → q ≡ cond (state s) (min r s) r → Least shapes (j + 1) state q
least_more {shapes} {state} {j} {r} {q} {s} l at is = by (state s) refl is
  where
    -- the new one, and those before it
    among : (state s ≡ true → q ≤ s) → q ≤ r → (k : ℕ) → k < j + 1 → state (get_or shapes k 0) ≡ true → q ≤ get_or shapes k 0
    among here low k h on = go (dec_lt k j)
      where
        go : Dec (k < j) → q ≤ get_or shapes k 0
        go (yes lt) = omega (arith, l.among k lt on)
        go (no ge) = let z : j ≡ k = omega arith in omega (arith, here (rw (at, z) on), rw z at at)

    on_least : state s ≡ true → q ≡ min r s → Dec (r ≤ s) → (q ≡ 65535) ⊎ (state q ≡ true)
    on_least u e (yes h) = let z : q ≡ r = omega arith in rw z l.on
    on_least u e (no h) = let z : q ≡ s = omega arith in inr (rw z u)

    by : (a : Bool) → state s ≡ a → q ≡ cond a (min r s) r → Least shapes (j + 1) state q
    by true u e = record { among = among (λ _. omega arith) (omega arith); on = on_least u e (dec_le r s) }
    by false u e = record { among = among (λ w. absurd (false≢true (sym u ∙ w))) (omega arith); on = rw e l.on }

pub least_end : {shapes : List ℕ} {state : State} {j r : ℕ} → Least shapes j state r → length shapes ≤ j → Least shapes (length shapes) state r
least_end l h = record { among = λ k lt on. l.among k (omega arith) on; on = l.on }

-- a shape whose state is flipped stands among those crossed
crossed_some : (shapes : List ℕ) (state : State) (s : ℕ) → ((k : ℕ) × (k < length shapes) × (get_or shapes k 0 ≡ s)) ⊎ (after state shapes s ≡ state s)
unfolding after
crossed_some [] state s = inr refl
crossed_some (t ∷ shapes) state s = by (eqb s t) refl (crossed_some shapes (flipped t state) s)
  where
    by : (b : Bool) → eqb s t ≡ b → ((k : ℕ) × (k < length shapes) × (get_or shapes k 0 ≡ s)) ⊎ (after (flipped t state) shapes s ≡ flipped t state s)
        → ((k : ℕ) × (k < suc (length shapes)) × (get_or (t ∷ shapes) k 0 ≡ s)) ⊎ (after (flipped t state) shapes s ≡ state s)
    by true e ih = inl (0, omega arith, sym (eqb-true s t e))
    by false e (inl i) = inl (suc i.0, omega (arith, i.1), i.2)
    by false e (inr i) = inr (i ∙ flipped-other t s state (eqb-false s t e))

-- so the least that is on is the lowest that changes
pub least_lowest : {shapes : List ℕ} {state : State} {r : ℕ} → state ≡ after outside shapes → FewShapes shapes → Least shapes (length shapes) state r → lowest_from 256 0 outside state ≡ r
least_lowest {shapes} {state} {r} is few l = by l.on
  where
    bound : (s : ℕ) → state s ≡ true → (r ≤ s) × (s < 256)
    bound s on = go (crossed_some shapes outside s)
      where
        go : ((k : ℕ) × (k < length shapes) × (get_or shapes k 0 ≡ s)) ⊎ (after outside shapes s ≡ false) → (r ≤ s) × (s < 256)
        go (inl i) = let a = l.among i.0 i.1 (rw i.2 on) in (omega (arith, a, i.2), omega (arith, few.few i.0 i.1, i.2))
        go (inr e) = absurd (true≢false (sym on ∙ ap (λ (u : State). u s) is ∙ e))

    off : (t : ℕ) → (r ≤ t → ⊥) ⊎ (256 ≤ t) → outside t ≡ state t
    off t h = go (state t) refl h
      where
        go : (b : Bool) → state t ≡ b → (r ≤ t → ⊥) ⊎ (256 ≤ t) → false ≡ b
        go true e (inl n) = absurd (n (bound t e).0)
        go true e (inr n) = absurd (omega (arith, (bound t e).1))
        go false e h = refl

    by : (r ≡ 65535) ⊎ (state r ≡ true) → lowest_from 256 0 outside state ≡ r
    by (inl e) = lowest_none outside state (λ t h. off t (inl (omega arith))) ∙ sym e
    by (inr e) = lowest_is outside state r (bound r e).1 (record { changed = λ q. false≢true (q ∙ e); lowest = λ t h. off t (inl (omega arith)) })
