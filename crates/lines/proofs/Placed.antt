-- The crossings of one line, as accepted lists have them: their positions do not fall and lie between the end marks. The states along it.
use Prim.Native.Nat.{ℕ}
use mathlib.Core.Path.{◌≡◌, refl, sym, ap, ◌∙◌, fun_ext}
use mathlib.Core.Bool.{Bool, true, false, true≢false}
use mathlib.Core.List.{List, [], ◌∷◌}
use mathlib.Core.Option.{Option, none, some}
use borrow.Author.Tests.{eqb-true}
use lib.IntN.{ℤ}
use lib.Signed.{lt_z, le_z}
use Rattle.formula.specs.States.{State, changed_by, flipped}
use Rattle.formula.specs.Flips.{after}
use Rattle.formula.proofs.States.{after-changed_by}
use Rattle.lines.specs.Lines.{Crossing, crossed, low, high, on_line, state_at, Edge, open_end, ends_group, opened, crossings_on}
use Rattle.lines.proofs.Keys.{antisym, not-lt→, lt→le, lt_trans, le_z_off}
use Rattle.lines.proofs.Crossings.{crossed_in, crossed_out, crossed_nil, on_nil, on_in, on_out, crossed-on, Each, each_on, each_its_line, Sorted, Kept, kept_low, kept_high, Later, all-later, later-at}

-- where the next crossing is; after the last, the high viewOf
abbrev pub next : List Crossing → ℤ
next [] = high
next (x ∷ xs) = x.at

abbrev pub Placed : List Crossing → Type 0
Placed [] = Unit {0}
Placed (x ∷ xs) = ((lt_z low x.at ≡ true) × (lt_z x.at high ≡ true)) × ((le_z x.at (next xs) ≡ true) × Placed xs)

pub below-high : (xs : List Crossing) → Placed xs → le_z (next xs) high ≡ true
below-high [] h = refl
below-high (x ∷ xs) h = lt→le x.at high h.0.1

pub above_low : (xs : List Crossing) → Placed xs → lt_z low (next xs) ≡ true
above_low [] h = refl
above_low (x ∷ xs) h = h.0.0

-- a line's own crossings are
pub line-placed : (rows l : ℕ) (xs : List Crossing) → Sorted xs → Kept rows xs → Placed (crossings_on l xs)
line-placed rows l [] so ke = rw (on_nil l) tt
line-placed rows l (x ∷ xs) so ke = by (on_line l x) refl (line-placed rows l xs so.1 ke.1)
  where
    near : x.line ≡ l → (ys : List Crossing) → Each (Later x) ys → Each (λ y. y.line ≡ l) ys → le_z x.at (next ys) ≡ true
    near e [] la on = lt→le x.at high (kept_high rows x ke.0)
    near e (y ∷ ys) la on = later-at x y (e ∙ sym on.0) la.0

    by : (b : Bool) → on_line l x ≡ b → Placed (crossings_on l xs) → Placed (crossings_on l (x ∷ xs))
    by true e ih =
        let la : Each (Later x) (crossings_on l xs) = each_on (Later x) l xs (all-later x xs so.0 so.1) in
        rw (on_in l x xs e) ((kept_low rows x ke.0, kept_high rows x ke.0), (near (eqb-true x.line l e) (crossings_on l xs) la (each_its_line l xs), ih))
    by false e ih = rw (on_out l x xs e) ih

-- ---- the states beyond those crossings of the line that lie at p or before it

abbrev up_to : ℤ → Crossing → Bool
up_to p x = le_z x.at p

abbrev pub along : ℤ → State → List Crossing → State
along p state xs = after state (crossed (up_to p) xs)

along_nil : (p : ℤ) (state : State) → along p state [] ≡ state
unfolding after
along_nil p state = ap (after state) (crossed_nil (up_to p)) ∙ fun_ext (λ t. refl)

pub along-on : (p : ℤ) (state : State) (x : Crossing) (xs : List Crossing) → le_z x.at p ≡ true → along p state (x ∷ xs) ≡ along p (flipped x.shape state) xs
unfolding after
along-on p state x xs e = ap (after state) (crossed_in (up_to p) x xs e) ∙ fun_ext (λ t. refl)

pub along-off : (p : ℤ) (state : State) (xs : List Crossing) → Placed xs → le_z (next xs) p ≡ false → along p state xs ≡ state
along-off p state [] h e = along_nil p state
along-off p state (x ∷ xs) h e = ap (after state) (crossed_out (up_to p) x xs e) ∙ along-off p state xs h.1.1 (le_z_off x.at (next xs) p h.1.0 e)

-- they are those of the line in the whole list
pub along-state_at : (start : ℕ → State) (xs : List Crossing) (l : ℕ) (p : ℤ) → along p (start l) (crossings_on l xs) ≡ state_at start xs l p
along-state_at start xs l p = after-changed_by (crossed (up_to p) (crossings_on l xs)) (start l) ∙ sym (ap (changed_by (start l)) (crossed-on l (λ q. le_z q p) xs))

-- ---- groups, and the open wall

-- a group ends where the next crossing is further on, or there is none
pub ends_lt : (x : Crossing) (xs : List Crossing) → Placed (x ∷ xs) → ends_group x xs ≡ true → lt_z x.at (next xs) ≡ true
ends_lt x [] h e = h.0.1
ends_lt x (y ∷ ys) h e = e

pub goes_same : (x : Crossing) (xs : List Crossing) → Placed (x ∷ xs) → ends_group x xs ≡ false → next xs ≡ x.at
goes_same x [] h e = absurd (true≢false e)
goes_same x (y ∷ ys) h e = antisym y.at x.at (not-lt→ x.at y.at e) h.1.0

-- the open wall began before p
abbrev pub Opened : Option Edge → ℤ → Type 0
Opened none p = Unit {0}
Opened (some a) p = lt_z a.at p ≡ true

pub opened-on : (x : Crossing) (xs : List Crossing) (s : ℕ) (metal : Bool) (from : Option Edge) → Placed (x ∷ xs) → Opened from x.at
    → Opened (opened (ends_group x xs) metal from (record { at = x.at; shape = s })) (next xs)
opened-on x xs s metal from h op = go (ends_group x xs) refl metal from op
  where
    go : (e : Bool) → ends_group x xs ≡ e → (m : Bool) (o : Option Edge) → Opened o x.at → Opened (opened e m o (record { at = x.at; shape = s })) (next xs)
    go false q m none op = tt
    go false q m (some a) op = rw (goes_same x xs h q) op
    go true q true none op = ends_lt x xs h q
    go true q true (some a) op = lt_trans a.at x.at (next xs) op (ends_lt x xs h q)
    go true q false o op = tt

-- a wall open from the line's start
pub entered_below : (metal : Bool) (q : ℤ) → lt_z low q ≡ true → Opened (opened true metal none (open_end low)) q
entered_below true q h = h
entered_below false q h = tt
