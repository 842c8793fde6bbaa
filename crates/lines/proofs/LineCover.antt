-- The walls of one line cover its unit cells exactly where there is metal: beyond a crossing the states say so, and short of it the open wall.
use Prim.Native.Nat.{ℕ}
use mathlib.Core.Path.{◌≡◌, refl, sym, ap, ◌∙◌}
use mathlib.Core.Bool.{Bool, true, false, not, ◌&&◌, ◌||◌, cond, true≢false, and-false, or-false}
use mathlib.Core.List.{List, [], ◌∷◌, ◌++◌}
use mathlib.Core.Option.{Option, none, some}
use borrow.Author.Tests.{eq-eqb}
use lib.Dec.{eqb}
use lib.IntN.{ℤ}
use lib.Signed.{lt_z, le_z}
use Rattle.formula.specs.States.{State, flipped}
use Rattle.lines.specs.Lines.{Crossing, low, high, Wall, Edge, edge_at, open_end, ends_group, opened, closed, walls_on}
use Rattle.lines.specs.Right.{covers}
use Rattle.lines.proofs.Keys.{trans, lt_z_not, lt→le, no→lt, le_z_off}
use Rattle.lines.proofs.Placed.{next, Placed, below-high, above_low, along, along-on, along-off, goes_same, Opened, opened-on, entered_below}
use Rattle.lines.proofs.LinesBy.{walls_on_nil, walls_on_cons}

pub covers_app : (l : ℕ) (p : ℤ) (a b : List Wall) → covers l p (a ++ b) ≡ (covers l p a || covers l p b)
unfolding covers
covers_app l p [] b = refl
covers_app l p (w ∷ a) b = rw (covers_app l p a b) (sym (assoc (eqb w.line l && le_z w.start p && lt_z p w.end) (covers l p a) (covers l p b)))
  where
    assoc : (x y z : Bool) → (x || y || z) ≡ (x || (y || z))
    assoc true y z = refl
    assoc false y z = refl

and-true : (b : Bool) → (b && true) ≡ b
and-true true = refl
and-true false = refl

-- the open wall reaches the cell at p
abbrev open_at : Option Edge → ℤ → Bool
open_at none p = false
open_at (some a) p = le_z a.at p

closed-covers : (l : ℕ) (p : ℤ) (e m : Bool) (from : Option Edge) (here : Edge) → covers l p (closed e m from l here) ≡ (e && (not m && (open_at from p && lt_z p here.at)))
unfolding covers
closed-covers l p false m from here = refl
closed-covers l p true true from here = refl
closed-covers l p true false none here = refl
closed-covers l p true false (some a) here = rw (eq-eqb l l refl) (or-false (le_z a.at p && lt_z p here.at))

module _ (solid : State → Bool) (shape : ℕ → ℤ → ℕ) (l : ℕ) (p : ℤ) where
  -- what the states say of the cell, beyond the next crossing
  abbrev beyond : State → List Crossing → Bool
  beyond state [] = false
  beyond state (x ∷ xs) = lt_z p high && solid (along p state (x ∷ xs))

  -- beyond the next crossing the states say, and short of it the open wall
  abbrev said : State → Option Edge → List Crossing → Bool
  said state from xs = cond (le_z (next xs) p) (beyond state xs) (open_at from p)

  beyond_both : (x : Crossing) (xs : List Crossing) (state : State) → le_z x.at p ≡ true → le_z (next xs) p ≡ true → beyond (flipped x.shape state) xs ≡ beyond state (x ∷ xs)
  beyond_both x [] state a b = rw (lt_z_not p high, b)
  beyond_both x (y ∷ ys) state a b = rw (along-on p state x (y ∷ ys) a)

  beyond-one : (x : Crossing) (xs : List Crossing) (state : State) → Placed (x ∷ xs) → le_z x.at p ≡ true → le_z (next xs) p ≡ false → beyond state (x ∷ xs) ≡ solid (flipped x.shape state)
  beyond-one x xs state h a b =
      rw (no→lt p high (le_z_off (next xs) high p (below-high xs h.1.1) b)) (ap solid (along-on p state x xs a ∙ along-off p (flipped x.shape state) xs h.1.1 b))

  one : (x : Crossing) (xs : List Crossing) (state : State) (from : Option Edge) → Placed (x ∷ xs) → Opened from x.at
      → (covers l p (closed (ends_group x xs) (solid (flipped x.shape state)) from l (edge_at shape l x.at))
      || said (flipped x.shape state) (opened (ends_group x xs) (solid (flipped x.shape state)) from (edge_at shape l x.at)) xs)
      ≡ said state from (x ∷ xs)
  one x xs state from h op =
      rw (closed-covers l p (ends_group x xs) (solid (flipped x.shape state)) from (edge_at shape l x.at), lt_z_not p x.at)
      (go (ends_group x xs) refl (solid (flipped x.shape state)) refl (le_z x.at p) refl (le_z (next xs) p) refl from op)
    where
      state' : State
      state' = flipped x.shape state

      none_of : (e m : Bool) (b : Bool) → (e && (not m && (b && false))) ≡ false
      none_of true true b = refl
      none_of true false b = and-false b
      none_of false m b = refl

      go : (e : Bool) → ends_group x xs ≡ e → (m : Bool) → solid state' ≡ m → (a : Bool) → le_z x.at p ≡ a → (b : Bool) → le_z (next xs) p ≡ b
          → (o : Option Edge) → Opened o x.at
          → (e && (not m && (open_at o p && not a)) || cond b (beyond state' xs) (open_at (opened e m o (edge_at shape l x.at)) p)) ≡ cond a (beyond state (x ∷ xs)) (open_at o p)
      go e q m u false a true b o op = absurd (true≢false (sym (trans x.at (next xs) p h.1.0 b) ∙ a))
      go e q m u true a true b o op = rw (none_of e m (open_at o p)) (beyond_both x xs state a b)
      go false q m u true a false b o op = absurd (true≢false (sym a ∙ (rw (goes_same x xs h q) at b)))
      go false q m u false a false b o op = refl
      go true q true u true a false b none op = a ∙ sym (beyond-one x xs state h a b ∙ u)
      go true q true u true a false b (some c) op = trans c.at x.at p (lt→le c.at x.at op) a ∙ sym (beyond-one x xs state h a b ∙ u)
      go true q false u true a false b o op = rw (and-false (open_at o p)) (sym (beyond-one x xs state h a b ∙ u))
      go true q true u false a false b none op = a
      go true q true u false a false b (some c) op = refl
      go true q false u false a false b o op = or-false _ ∙ and-true (open_at o p)

  cells : (xs : List Crossing) (state : State) (from : Option Edge) → Placed xs → Opened from (next xs) → covers l p (walls_on solid shape l state from xs) ≡ said state from xs
  cells [] state from h op =
      ap (covers l p) (walls_on_nil solid shape l state from) ∙ closed-covers l p true false from (open_end high) ∙ rw (lt_z_not p high) (by (open_at from p) (le_z high p))
    where
      by : (a b : Bool) → (a && not b) ≡ cond b false a
      by a true = and-false a
      by true false = refl
      by false false = refl
  cells (x ∷ xs) state from h op =
      let ends : Bool = ends_group x xs in
      let state' : State = flipped x.shape state in
      let here : Edge = edge_at shape l x.at in
      let from' : Option Edge = opened ends (solid state') from here in
      let done : List Wall = closed ends (solid state') from l here in
      ap (covers l p) (walls_on_cons solid shape l state from x xs)
      ∙ covers_app l p done (walls_on solid shape l state' from' xs)
      ∙ ap (λ (b : Bool). covers l p done || b) (cells xs state' from' h.1.1 (opened-on x xs (shape l x.at) (solid state') from h op))
      ∙ one x xs state from h op

  -- a line that starts in metal has a wall open from the low viewOf
  abbrev entered : Bool → Option Edge
  entered metal = opened true metal none (open_end low)

  swap : (m : Bool) → open_at (entered m) p ≡ (le_z low p && m)
  swap true = sym (and-true (le_z low p))
  swap false = sym (and-false (le_z low p))

  -- from the line's start: between the views, where there is metal
  pub line_cells : (xs : List Crossing) (state : State) → Placed xs
      → covers l p (walls_on solid shape l state (opened true (solid state) none (open_end low)) xs) ≡ (le_z low p && (lt_z p high && solid (along p state xs)))
  line_cells xs state h = cells xs state (entered (solid state)) h (entered_below (solid state) (next xs) (above_low xs h)) ∙ by xs h (le_z (next xs) p) refl
    where
      by : (xs : List Crossing) → Placed xs → (b : Bool) → le_z (next xs) p ≡ b → cond b (beyond state xs) (open_at (entered (solid state)) p) ≡ (le_z low p && (lt_z p high && solid (along p state xs)))
      by [] h true b = rw (lt_z_not p high, b) (sym (and-false (le_z low p)))
      by (x ∷ xs) h true b = rw (trans low x.at p (lt→le low x.at h.0.0) b)
      by xs h false b = rw (no→lt p high (le_z_off (next xs) high p (below-high xs h) b), along-off p state xs h b) (swap (solid state))
