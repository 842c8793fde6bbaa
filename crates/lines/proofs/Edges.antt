-- Where a wall of a right list begins or ends, metal changes, so a state does: such a shape exists, and it is the only one.
use Prim.Native.Nat.{ℕ, zero, suc, ◌≤◌}
use native.Mathlib.Omega.{arith}
use mathlib.Core.Path.{◌≡◌, refl, sym, ap, ◌∙◌, fun_ext}
use mathlib.Core.Bool.{Bool, true, false, ◌&&◌, ◌||◌, false≢true, true≢false, and-false, or-false}
use mathlib.Core.List.{List, [], ◌∷◌}
use borrow.Author.Tests.{eq-eqb, ne_eqb, ltb-true, eqb-true, le-ltb, le-leb}
use lib.Dec.{eqb, ltb, leb-suc-suc}
use lib.IntN.{ℤ, pos, negsuc, pred_ℤ}
use lib.Signed.{lt_z, le_z}
use Rattle.formula.specs.Formula.{Formula, inside}
use Rattle.formula.specs.States.{State, times, changed_by}
use Rattle.lines.specs.Lines.{Crossing, crossed, low, high, strays, short_of, as_far_as, state_before, state_at, lowest_from, shape_at, Wall}
use Rattle.lines.specs.Right.{covers, apart, Next, Rising, LowestChanged, Bounds}
use Rattle.lines.specs.Edges.{Bound}
use Rattle.lines.proofs.Keys.{le_k, eq_le_k, lt_le_k, le, le_total, le_trans, le_antisym, lt_z_not, total, trans, lt→le, lt→no, le_z_self, lt_le, le_lt, no→lt}
use Rattle.lines.proofs.Stretches.{in_stretch, beyond}
use Rattle.lines.proofs.RisingOnly.{stretch, stretches, in_wall, covers_is, rises_is}
use Rattle.lines.proofs.Crossings.{crossed_in, crossed_out, crossed_nil, Each, each_map, Named, Kept, kept_low, kept_high}
use Rattle.lines.proofs.Judgement.{InOrder}
use Rattle.lines.proofs.Lowest.{lowest_found, lowest_none}

-- ---- the cell before a position

lt_z_pred : (a b : ℤ) → lt_z a b ≡ le_z a (pred_ℤ b)
lt_z_pred (pos a) (pos zero) = le-ltb a 0 (omega arith)
lt_z_pred (pos a) (pos (suc b)) = leb-suc-suc a b
lt_z_pred (pos a) (negsuc b) = refl
lt_z_pred (negsuc a) (pos zero) = sym (le-leb 0 a (omega arith))
lt_z_pred (negsuc a) (pos (suc b)) = refl
lt_z_pred (negsuc a) (negsuc b) = refl

pred_le : (p : ℤ) → le_z (pred_ℤ p) p ≡ true
pred_le p = lt→le (pred_ℤ p) p (lt_z_pred (pred_ℤ p) p ∙ le_z_self (pred_ℤ p))

before_at : (start : ℕ → State) (xs : List Crossing) (l : ℕ) (p : ℤ) → state_before start xs l p ≡ state_at start xs l (pred_ℤ p)
before_at start xs l p = ap (λ (test : Crossing → Bool). changed_by (start l) (crossed test xs)) (fun_ext (λ x. ap (λ (b : Bool). eqb x.line l && b) (lt_z_pred x.at p)))

-- ---- a wall of a rising list covers its first and its last cell, and nothing covers the cells beside them

covers_cons : (l : ℕ) (p : ℤ) (w : Wall) (ws : List Wall) → covers l p (w ∷ ws) ≡ (eqb w.line l && le_z w.start p && lt_z p w.end) || covers l p ws
unfolding covers
covers_cons l p w ws = refl

-- up to the end of a wall, the walls after it cover nothing
none_after : (w : Wall) (ws : List Wall) → Rising (w ∷ ws) → (p : ℤ) → le_z p w.end ≡ true → covers w.line p ws ≡ false
unfolding stretch stretches
none_after w ws r p h =
    covers_is w.line p ws ∙ beyond le le_total le_trans le_antisym (w.line, p) (stretch w) (stretches ws) (rises_is (w ∷ ws) r) (eq_le_k w.line p w.line w.end refl ∙ h)

past_it : (l : ℕ) (p : ℤ) (w : Wall) → le_k w.line w.end l p ≡ true → in_stretch le (l, p) (stretch w) ≡ false
unfolding stretch
past_it l p w e = rw e (and-false (le_k w.line w.start l p))

module _ (c : ℕ → ℤ → Bool) where
  -- metal begins at p, and ends at p
  abbrev Begins : ℕ → ℤ → Type 0
  Begins l p = (c l (pred_ℤ p) ≡ false) × (c l p ≡ true)

  abbrev Ends : ℕ → ℤ → Type 0
  Ends l p = (c l (pred_ℤ p) ≡ true) × (c l p ≡ false)

  abbrev Edged : List Wall → Type 0
  Edged [] = Unit {0}
  Edged (w ∷ ws) = (Begins w.line w.start × Ends w.line w.end) × Edged ws

  -- at or after the cell before the first wall
  abbrev Ahead : List Wall → ℕ → ℤ → Type 0
  Ahead [] l p = ⊥
  Ahead (w ∷ ws) l p = le_k w.line (pred_ℤ w.start) l p ≡ true

  -- something lies between two walls
  gap : (w v : Wall) → apart w v ≡ true → le_k w.line w.end v.line (pred_ℤ v.start) ≡ true
  gap w v e = by (ltb w.line v.line) refl (eqb w.line v.line) refl
    where
      by : (a : Bool) → ltb w.line v.line ≡ a → (b : Bool) → eqb w.line v.line ≡ b → le_k w.line w.end v.line (pred_ℤ v.start) ≡ true
      by true a b k = lt_le_k w.line w.end v.line (pred_ℤ v.start) (ltb-true w.line v.line a)
      by false a true k = eq_le_k w.line w.end v.line (pred_ℤ v.start) (eqb-true w.line v.line k) ∙ sym (lt_z_pred w.end v.start) ∙ (rw (a, k) at e)
      by false a false k = absurd (false≢true (rw (a, k) at e))

  edged : (ws : List Wall) → Rising ws → ((l : ℕ) (p : ℤ) → Ahead ws l p → c l p ≡ covers l p ws) → Edged ws
  edged [] r same = tt
  edged (w ∷ ws) r same = (((first, second), (third, fourth)), edged ws r.1.1 (rest ws r.1.0 same))
    where
      long : le_z w.start (pred_ℤ w.end) ≡ true
      long = sym (lt_z_pred w.start w.end) ∙ r.0

      at : (p : ℤ) → le_z (pred_ℤ w.start) p ≡ true → c w.line p ≡ covers w.line p (w ∷ ws)
      at p h = same w.line p (eq_le_k w.line (pred_ℤ w.start) w.line p refl ∙ h)

      is : (p : ℤ) → le_z (pred_ℤ w.start) p ≡ true → le_z p w.end ≡ true → c w.line p ≡ (le_z w.start p && lt_z p w.end)
      is p h k = at p h ∙ covers_cons w.line p w ws ∙ rw (eq-eqb w.line w.line refl, none_after w ws r p k) (or-false _)

      up : le_z w.start w.end ≡ true
      up = lt→le w.start w.end r.0

      first : c w.line (pred_ℤ w.start) ≡ false
      first = is (pred_ℤ w.start) (le_z_self (pred_ℤ w.start)) (trans (pred_ℤ w.start) w.start w.end (pred_le w.start) up)
          ∙ rw (sym (lt_z_pred w.start w.start) ∙ lt_z_not w.start w.start, le_z_self w.start)

      second : c w.line w.start ≡ true
      second = is w.start (pred_le w.start) up ∙ rw (le_z_self w.start, r.0)

      third : c w.line (pred_ℤ w.end) ≡ true
      third = is (pred_ℤ w.end) (trans (pred_ℤ w.start) w.start (pred_ℤ w.end) (pred_le w.start) long) (pred_le w.end)
          ∙ rw (long, lt_z_pred (pred_ℤ w.end) w.end, le_z_self (pred_ℤ w.end))

      fourth : c w.line w.end ≡ false
      fourth = is w.end (trans (pred_ℤ w.start) w.start w.end (pred_le w.start) up) (le_z_self w.end)
          ∙ rw (up, lt_z_not w.end w.end, le_z_self w.end)

      rest : (vs : List Wall) → Next w vs → ((l : ℕ) (p : ℤ) → Ahead (w ∷ vs) l p → c l p ≡ covers l p (w ∷ vs)) → (l : ℕ) (p : ℤ) → Ahead vs l p → c l p ≡ covers l p vs
      rest [] n same' l p h = absurd h
      rest (v ∷ vs) n same' l p h =
          let past : le_k w.line w.end l p ≡ true = le_trans (w.line, w.end) (v.line, pred_ℤ v.start) (l, p) (gap w v n) h in
          let ahead : le_k w.line (pred_ℤ w.start) w.line w.end ≡ true =
          eq_le_k w.line (pred_ℤ w.start) w.line w.end refl ∙ trans (pred_ℤ w.start) w.start w.end (pred_le w.start) up in
          same' l p (le_trans (w.line, pred_ℤ w.start) (w.line, w.end) (l, p) ahead past)
          ∙ covers_cons l p w (v ∷ vs) ∙ ap (λ (b : Bool). b || covers l p (v ∷ vs)) (in_wall l p w ∙ past_it l p w past)

-- ---- at an end mark nothing is crossed, and no shape without a name anywhere

-- of crossings at which two tests agree
crossed-alike : (test other : Crossing → Bool) (xs : List Crossing) → Each (λ x. test x ≡ other x) xs → crossed test xs ≡ crossed other xs
crossed-alike test other [] h = crossed_nil test ∙ sym (crossed_nil other)
crossed-alike test other (x ∷ xs) h = by (other x) refl (crossed-alike test other xs h.1)
  where
    by : (b : Bool) → other x ≡ b → crossed test xs ≡ crossed other xs → crossed test (x ∷ xs) ≡ crossed other (x ∷ xs)
    by true e ih = crossed_in test x xs (h.0 ∙ e) ∙ ap (λ ss. x.shape ∷ ss) ih ∙ sym (crossed_in other x xs e)
    by false e ih = crossed_out test x xs (h.0 ∙ e) ∙ ih ∙ sym (crossed_out other x xs e)

-- at an end mark, or beyond it
abbrev at_mark : ℤ → Bool
at_mark p = le_z p low || le_z high p

view-apart : (rows : ℕ) (p : ℤ) → at_mark p ≡ true → (x : Crossing) → strays rows x ≡ false → lt_z x.at p ≡ le_z x.at p
view-apart rows p e x k = by (le_z p low) refl (le_z high p) refl
  where
    by : (a : Bool) → le_z p low ≡ a → (b : Bool) → le_z high p ≡ b → lt_z x.at p ≡ le_z x.at p
    by true a b c = lt_z_not x.at p ∙ rw (lt→le p x.at (le_lt p low x.at a (kept_low rows x k)), lt→no p x.at (le_lt p low x.at a (kept_low rows x k)))
    by false a true c = let h : lt_z x.at p ≡ true = lt_le x.at high p (kept_high rows x k) c in h ∙ sym (lt→le x.at p h)
    by false a false c = absurd (false≢true (rw (a, c) at e))

none_of : (names t : ℕ) (test : Crossing → Bool) (xs : List Crossing) → Named names xs → names ≤ t → times t (crossed test xs) ≡ 0
unfolding crossed times
none_of names t test [] nm h = refl
none_of names t test (x ∷ xs) nm h = by (test x) refl (none_of names t test xs nm.1 h)
  where
    by : (b : Bool) → test x ≡ b → times t (crossed test xs) ≡ 0 → times t (crossed test (x ∷ xs)) ≡ 0
    by true e ih = rw (crossed_in test x xs e, ne_eqb t x.shape (omega (arith, nm.0))) (omega (arith, ih))
    by false e ih = rw (crossed_out test x xs e) ih

or_no : (a b : Bool) → (a || b) ≡ false → (a ≡ false) × (b ≡ false)
or_no true b e = absurd (true≢false e)
or_no false b e = (refl, e)

module _ (start : ℕ → State) (xs : List Crossing) where
  -- so an end mark's shape is 65535
  pub view-shape : (rows l : ℕ) (p : ℤ) → Kept rows xs → at_mark p ≡ true → shape_at start xs l p ≡ 65535
  unfolding shape_at
  view-shape rows l p ke e =
      let alike : crossed (short_of l p) xs ≡ crossed (as_far_as l p) xs =
      crossed-alike (short_of l p) (as_far_as l p) xs (each_map (λ x. strays rows x ≡ false) (λ x. short_of l p x ≡ as_far_as l p x) (λ x k. ap (λ (b : Bool). eqb x.line l && b) (view-apart rows p e x k)) xs ke) in
      lowest_none (state_before start xs l p) (state_at start xs l p) (λ t h. ap (λ (ss : List ℕ). changed_by (start l) ss t) alike)

  far_same : (names l : ℕ) (p : ℤ) → Named names xs → names ≤ 256 → (t : ℕ) → 256 ≤ t → state_before start xs l p t ≡ state_at start xs l p t
  far_same names l p nm few t h = rw (none_of names t (short_of l p) xs nm (omega arith), none_of names t (as_far_as l p) xs nm (omega arith))

  -- ---- so a shape bounds each wall at both ends, and the search finds it

  module _ (f : Formula) (names rows : ℕ) (few : names ≤ 256) (all : InOrder names rows xs) where
    abbrev metal : ℕ → ℤ → Bool
    metal l p = ltb l rows && (le_z low p && (lt_z p high && inside f (state_at start xs l p)))

    -- between the views the states alone decide
    decided : (l : ℕ) (p : ℤ) → le_z low p ≡ true → lt_z p high ≡ true → metal l p ≡ (ltb l rows && inside f (state_at start xs l p))
    decided l p a b = rw (a, b)

    alike : (l : ℕ) (p : ℤ) → le_z p low ≡ false → le_z high p ≡ false → state_at start xs l (pred_ℤ p) ≡ state_at start xs l p → metal l (pred_ℤ p) ≡ metal l p
    alike l p a b same =
        let under : lt_z p high ≡ true = no→lt p high b in
        decided l (pred_ℤ p) (sym (lt_z_pred low p) ∙ no→lt low p a) (le_lt (pred_ℤ p) p high (pred_le p) under)
        ∙ ap (λ (state : State). ltb l rows && inside f state) same
        ∙ sym (decided l p (total p low a) under)

    bounded_at : (l : ℕ) (p : ℤ) → (metal l (pred_ℤ p) ≡ metal l p → ⊥) → Bounds start xs l p (shape_at start xs l p)
    unfolding shape_at
    bounded_at l p h = record { open_end = view-shape rows l p all.kept; crossed_there = λ e. there (or_no (le_z p low) (le_z high p) e) }
      where
        there : (le_z p low ≡ false) × (le_z high p ≡ false) → LowestChanged (state_before start xs l p) (state_at start xs l p) (lowest_from 256 0 (state_before start xs l p) (state_at start xs l p))
        there e =
            lowest_found (state_before start xs l p) (state_at start xs l p) (far_same names l p all.named few) (λ same. h (alike l p e.0 e.1 (sym (before_at start xs l p) ∙ same)))

    pub ends_bounded : (ws : List Wall) → Rising ws → ((l : ℕ) (p : ℤ) → covers l p ws ≡ metal l p) → Bound start xs ws
    ends_bounded ws r cells = each ws (edged metal ws r (λ l p h. sym (cells l p)))
      where
        each : (ws : List Wall) → Edged metal ws → Bound start xs ws
        each [] e = tt
        each (w ∷ ws) e = (
          (
            bounded_at w.line w.start (λ q. false≢true (sym e.0.0.0 ∙ q ∙ e.0.0.1)),
            bounded_at w.line w.end (λ q. true≢false (sym e.0.1.0 ∙ q ∙ e.0.1.1)),
          ),
          each ws e.1,
        )
