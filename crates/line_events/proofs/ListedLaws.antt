-- What is listed: each event is of a column gone through, and where it is a change, all that stands there has acted.
use Prim.Native.Nat.{ℕ, zero, suc, ◌+◌, ◌≤◌, ◌<◌}
use native.Mathlib.Omega.{arith}
use mathlib.Core.Path.{◌≡◌, refl, sym, ap, ◌∙◌}
use mathlib.Core.Bool.{Bool, true, false, not, cond, ◌&&◌, beq}
use mathlib.Core.List.{List, [], ◌∷◌, ◌++◌}
use lib.ListN.{length, get_or}
use lib.Seq.{get_or-take, length-take-le}
use Rattle.line_lists.specs.Block.{columns}
use Rattle.line_events.specs.Events.{changes_at, opens_at, events_at, metal_next, metal_after, events_after}
use Rattle.line_events.specs.Noted.{Listed}

-- of the first n columns: a change at one where all has acted, or what goes on past one
pub record EventOf (ends : ℕ → Bool) (n e : ℕ) : Type 0 where
  pub change : e < columns → (e < n) × (ends e ≡ true)
  pub end : columns ≤ e → e < columns + n

module _ (ends bits last : ℕ → Bool) (metal : Bool) where
  pub events_zero : events_after ends bits last metal 0 ≡ []
  unfolding events_after
  events_zero = refl

  pub events_more : (j : ℕ) → events_after ends bits last metal (suc j) ≡ events_after ends bits last metal j ++ events_at (ends j) (bits j) (last j) (metal_after ends bits last metal j) j
  unfolding events_after
  events_more j = refl

  pub metal_zero : metal_after ends bits last metal 0 ≡ metal
  unfolding metal_after
  metal_zero = refl

  pub metal_more : (j : ℕ) → metal_after ends bits last metal (suc j) ≡ metal_next (ends j) (bits j) (last j) (metal_after ends bits last metal j)
  unfolding metal_after
  metal_more j = refl

  abbrev Each : ℕ → List ℕ → Type 0
  Each n xs = (k : ℕ) → k < length xs → EventOf ends n (get_or xs k 0)

  each_app : (n : ℕ) (xs ys : List ℕ) → Each n xs → Each n ys → Each n (xs ++ ys)
  each_app n [] ys a b k h = b k h
  each_app n (x ∷ xs) ys a b zero h = a 0 (omega arith)
  each_app n (x ∷ xs) ys a b (suc k) h = each_app n xs ys (λ i l. a (suc i) (omega arith)) b k (omega arith)

  each_one : (n x : ℕ) → EventOf ends n x → Each n (x ∷ [])
  each_one n x e zero h = e
  each_one n x e (suc k) h = absurd (omega arith)

  each_none : (n : ℕ) → Each n []
  each_none n k h = absurd (omega arith)

  wider : (n e : ℕ) → EventOf ends n e → EventOf ends (suc n) e
  wider n e o = record { change = λ h. let c = o.change h in (omega (arith, c.0), c.1); end = λ h. omega (arith, o.end h) }

  at_changes : (j : ℕ) (now was : Bool) → j < columns → Each (suc j) (changes_at (ends j) now was j)
  at_changes j now was h = by (ends j) refl (not (beq was now))
    where
      by : (a : Bool) → ends j ≡ a → (d : Bool) → Each (suc j) (cond (a && d) (j ∷ []) [])
      by true e true = each_one (suc j) j (record { change = λ l. (omega arith, e); end = λ l. absurd (omega arith) })
      by true e false = each_none (suc j)
      by false e d = each_none (suc j)

  at-opens : (j : ℕ) (l m : Bool) → Each (suc j) (opens_at l m j)
  at-opens j true true = each_one (suc j) (columns + j) (record { change = λ l. absurd (omega arith); end = λ l. omega arith })
  at-opens j true false = each_none (suc j)
  at-opens j false m = each_none (suc j)

  events_each : (n : ℕ) → n ≤ columns → Each n (events_after ends bits last metal n)
  events_each zero h = rw events_zero (each_none 0)
  events_each (suc n) h =
      let was : Bool = metal_after ends bits last metal n in
      rw (events_more n)
      (each_app (suc n) (events_after ends bits last metal n) (events_at (ends n) (bits n) (last n) was n)
      (λ k l. wider n (get_or (events_after ends bits last metal n) k 0) (events_each n (omega arith) k l))
      (each_app (suc n) (changes_at (ends n) (bits n) was n) (opens_at (last n) (cond (ends n) (bits n) was) n) (at_changes n (bits n) was (omega arith)) (at-opens n (last n) (cond (ends n) (bits n) was))))

  pub listed_each : (n : ℕ) (events : List ℕ) (r : ℕ) → n ≤ columns → Listed ends bits last metal n events r → (k : ℕ) → k < r → EventOf ends n (get_or events k 0)
  listed_each n events r h l k lt =
      let long : length (events_after ends bits last metal n) ≡ r = ap length (sym l.are) ∙ length-take-le r events (omega (arith, l.few, l.sized)) in
      let is : get_or (events_after ends bits last metal n) k 0 ≡ get_or events k 0 = ap (λ (xs : List ℕ). get_or xs k 0) (sym l.are) ∙ get_or-take r events k 0 lt in
      rw is at (events_each n h k (omega arith))
