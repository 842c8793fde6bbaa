-- Two rising wall lists that cover the same cells and name the shapes that bound them are equal.
use Prim.Native.Nat.{ℕ, ◌<◌}
use native.Mathlib.Decide.{dec_lt}
use native.Mathlib.Omega.{arith}
use mathlib.Core.Path.{◌≡◌, refl, sym, ap, ◌∙◌}
use mathlib.Core.Bool.{Bool, true, false, not, ◌&&◌, ◌||◌, false≢true}
use mathlib.Core.List.{List, [], ◌∷◌}
use borrow.Author.Tests.{eq-eqb, ne_eqb, eqb-true, ltb-true}
use lib.Dec.{eqb, ltb}
use lib.IntN.{ℤ}
use lib.Signed.{le_z, lt_z}
use Rattle.formula.specs.States.{State}
use Rattle.lines.specs.Lines.{Crossing, low, high, state_before, state_at, Wall}
use Rattle.lines.specs.Right.{covers, apart, Rising, Bounds, Bounded}
use Rattle.lines.proofs.Keys.{le_k, lt_le_k, gt_le_k, eq_le_k, Key, le, le_total, le_trans, le_antisym, lt_z_not, lt→no}
use Rattle.lines.proofs.Lowest.{lowest_only}
use Rattle.lines.proofs.Stretches.{Stretch, covered, in_stretch, Rises, unique}

-- a wall as a stretch of keys
unfoldable pub stretch : Wall → Stretch Key
stretch w = record { lo = (w.line, w.start); hi = (w.line, w.end) }

unfoldable pub stretches : List Wall → List (Stretch Key)
stretches [] = []
stretches (w ∷ ws) = stretch w ∷ stretches ws

-- one shape is at a position
bounds_only : (start : ℕ → State) (xs : List Crossing) (l : ℕ) (p : ℤ) (s t : ℕ) → Bounds start xs l p s → Bounds start xs l p t → s ≡ t
bounds_only start xs l p s t a b = by (le_z p low || le_z high p) refl
  where
    by : (m : Bool) → (le_z p low || le_z high p) ≡ m → s ≡ t
    by true e = a.open_end e ∙ sym (b.open_end e)
    by false e = lowest_only (state_before start xs l p) (state_at start xs l p) s t (a.crossed_there e) (b.crossed_there e)

same-walls : (start : ℕ → State) (xs : List Crossing) (vs ws : List Wall) → stretches vs ≡ stretches ws → Bounded start xs vs → Bounded start xs ws → vs ≡ ws
unfolding stretches stretch
same-walls start xs [] [] e b c = refl
same-walls start xs [] (w ∷ ws) e b c = let z : ◌≡◌ {A = ℕ} 0 1 = cc in let b : ⊥ = omega arith in absurd b
same-walls start xs (v ∷ vs) [] e b c = let z : ◌≡◌ {A = ℕ} 0 1 = cc in let b : ⊥ = omega arith in absurd b
same-walls start xs (v ∷ vs) (w ∷ ws) e b c =
    let a : stretch v ≡ stretch w = cc in
    let d : stretches vs ≡ stretches ws = cc in
    let t : vs ≡ ws = same-walls start xs vs ws d b.1 c.1 in
    let l : v.line ≡ w.line = ap (λ (k : Stretch Key). k.lo.0) a in
    let p : v.start ≡ w.start = ap (λ (k : Stretch Key). k.lo.1) a in
    let q : v.end ≡ w.end = ap (λ (k : Stretch Key). k.hi.1) a in
    let f : v.start_shape ≡ w.start_shape = bounds_only start xs w.line w.start v.start_shape w.start_shape (rw (l, p) at b.0.0) c.0.0 in
    let g : v.end_shape ≡ w.end_shape = bounds_only start xs w.line w.end v.end_shape w.end_shape (rw (l, q) at b.0.1) c.0.1 in
    λ i. record { line = l i; start = p i; end = q i; start_shape = f i; end_shape = g i } ∷ t i

pub in_wall : (l : ℕ) (p : ℤ) (w : Wall) → (eqb w.line l && le_z w.start p && lt_z p w.end) ≡ in_stretch le (l, p) (stretch w)
unfolding stretch
in_wall l p w = by (dec_lt w.line l) (dec_lt l w.line)
  where
    by : Dec (w.line < l) → Dec (l < w.line) → (eqb w.line l && le_z w.start p && lt_z p w.end) ≡ (le_k w.line w.start l p && not (le_k w.line w.end l p))
    by (yes h) d = rw (lt_le_k w.line w.start l p h, lt_le_k w.line w.end l p h, ne_eqb w.line l (omega arith))
    by (no h) (yes k) = rw (gt_le_k w.line w.start l p k, ne_eqb w.line l (omega arith))
    by (no h) (no k) =
        let e : w.line ≡ l = omega arith in
        rw (eq_le_k w.line w.start l p e, eq_le_k w.line w.end l p e, eq-eqb w.line l e, lt_z_not p w.end)

pub covers_is : (l : ℕ) (p : ℤ) (ws : List Wall) → covers l p ws ≡ covered le (l, p) (stretches ws)
unfolding covers covered stretches
covers_is l p [] = refl
covers_is l p (w ∷ ws) = rw (in_wall l p w, covers_is l p ws)

long : (w : Wall) → lt_z w.start w.end ≡ true → le_k w.line w.end w.line w.start ≡ false
long w e = eq_le_k w.line w.end w.line w.start refl ∙ lt→no w.start w.end e

apart_is : (w v : Wall) → apart w v ≡ true → le_k v.line v.start w.line w.end ≡ false
apart_is w v e = by (ltb w.line v.line) refl (eqb w.line v.line) refl
  where
    by : (a : Bool) → ltb w.line v.line ≡ a → (b : Bool) → eqb w.line v.line ≡ b → le_k v.line v.start w.line w.end ≡ false
    by true a b c = gt_le_k v.line v.start w.line w.end (ltb-true w.line v.line a)
    by false a true c = eq_le_k v.line v.start w.line w.end (sym (eqb-true w.line v.line c)) ∙ lt→no w.end v.start (rw (a, c) at e)
    by false a false c = absurd (false≢true (rw (a, c) at e))

pub rises_is : (ws : List Wall) → Rising ws → Rises le (stretches ws)
unfolding stretches stretch
rises_is [] r = tt
rises_is (w ∷ []) r = (long w r.0, (tt, tt))
rises_is (w ∷ v ∷ vs) r = (long w r.0, (apart_is w v r.1.0, rises_is (v ∷ vs) r.1.1))

pub rising-only : (start : ℕ → State) (xs : List Crossing) (vs ws : List Wall) → Rising vs → Rising ws → ((l : ℕ) (p : ℤ) → covers l p vs ≡ covers l p ws) → Bounded start xs vs → Bounded start xs ws → vs ≡ ws
rising-only start xs vs ws a b same =
    same-walls start xs vs ws
    (unique le le_total le_trans le_antisym (stretches vs) (stretches ws) (rises_is vs a) (rises_is ws b)
    (λ k. sym (covers_is k.0 k.1 vs) ∙ same k.0 k.1 ∙ covers_is k.0 k.1 ws))
