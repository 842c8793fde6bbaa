-- The walls of all lines cover the cells where there is metal, and rise from line to line.
use Prim.Native.Nat.{ℕ, zero, suc, ◌+◌, ◌<◌, ◌≤◌}
use native.Mathlib.Decide.{dec_lt}
use native.Mathlib.Omega.{arith}
use mathlib.Core.Path.{◌≡◌, refl, sym, ap, ◌∙◌}
use mathlib.Core.Bool.{Bool, true, false, ◌&&◌, ◌||◌, or-false}
use mathlib.Core.List.{List, [], ◌∷◌, ◌++◌}
use mathlib.Core.Option.{Option, none, some}
use borrow.Author.Tests.{ne_eqb, lt-ltb, le-ltb}
use lib.Dec.{ltb}
use lib.IntN.{ℤ}
use lib.Signed.{lt_z, le_z}
use Rattle.formula.specs.States.{State, flipped}
use Rattle.lines.specs.Lines.{Crossing, low, high, state_at, Wall, Edge, edge_at, open_end, ends_group, opened, closed, walls_on, crossings_on}
use Rattle.lines.specs.Right.{covers, Next, Rising}
use Rattle.lines.proofs.Crossings.{Sorted, Kept}
use Rattle.lines.proofs.LinesBy.{walls_on_nil, walls_on_cons, walls_of, lines_by, by_none, by_more}
use Rattle.lines.proofs.Placed.{line-placed, along-state_at}
use Rattle.lines.proofs.LineCover.{covers_app, line_cells}
use Rattle.lines.proofs.LineRise.{line_rises}

-- ---- walls of one line

abbrev OnLine : ℕ → List Wall → Type 0
OnLine l [] = Unit {0}
OnLine l (w ∷ ws) = (w.line ≡ l) × OnLine l ws

on_app : (l : ℕ) (a b : List Wall) → OnLine l a → OnLine l b → OnLine l (a ++ b)
on_app l [] b h k = k
on_app l (w ∷ a) b h k = (h.0, on_app l a b h.1 k)

closed_on : (l : ℕ) (e m : Bool) (from : Option Edge) (here : Edge) → OnLine l (closed e m from l here)
closed_on l false m from here = tt
closed_on l true true from here = tt
closed_on l true false none here = tt
closed_on l true false (some a) here = (refl, tt)

walls-on : (solid : State → Bool) (shape : ℕ → ℤ → ℕ) (l : ℕ) (xs : List Crossing) (state : State) (from : Option Edge) → OnLine l (walls_on solid shape l state from xs)
walls-on solid shape l [] state from = rw (walls_on_nil solid shape l state from) (closed_on l true false from (open_end high))
walls-on solid shape l (x ∷ xs) state from =
    let e : Bool = ends_group x xs in
    let state' : State = flipped x.shape state in
    let here : Edge = edge_at shape l x.at in
    let from' : Option Edge = opened e (solid state') from here in
    rw (walls_on_cons solid shape l state from x xs) (on_app l (closed e (solid state') from l here) (walls_on solid shape l state' from' xs) (closed_on l e (solid state') from here) (walls-on solid shape l xs state' from'))

covers-other : (l m : ℕ) (p : ℤ) (ws : List Wall) → OnLine l ws → (l ≡ m → ⊥) → covers m p ws ≡ false
unfolding covers
covers-other l m p [] h k = refl
covers-other l m p (w ∷ ws) h k = rw (ne_eqb w.line m (λ e. k (sym h.0 ∙ e))) (covers-other l m p ws h.1 k)

-- ---- lines in turn

-- the first wall is on line l or later
abbrev From : ℕ → List Wall → Type 0
From l [] = Unit {0}
From l (w ∷ ws) = l ≤ w.line

rising_app : (l : ℕ) (a b : List Wall) → Rising a → OnLine l a → Rising b → From (suc l) b → Rising (a ++ b)
rising_app l [] b r h s f = s
rising_app l (w ∷ []) b r h s f = (r.0, (join b f, s))
  where
    join : (b : List Wall) → From (suc l) b → Next w b
    join [] f = tt
    join (v ∷ vs) f = rw (lt-ltb w.line v.line (omega (arith, h.0)))
rising_app l (w ∷ v ∷ a) b r h s f = (r.0, (r.1.0, rising_app l (v ∷ a) b r.1.1 h.1 s f))

from_app : (l : ℕ) (a b : List Wall) → OnLine l a → From (suc l) b → From l (a ++ b)
from_app l [] [] h f = tt
from_app l [] (w ∷ b) h f = omega arith
from_app l (w ∷ a) b h f = omega (arith, h.0)

module _ (solid : State → Bool) (start : ℕ → State) (shape : ℕ → ℤ → ℕ) (xs : List Crossing) where
  abbrev line : ℕ → List Wall
  line l = walls_of solid start shape l (crossings_on l xs)

  line_on : (l : ℕ) → OnLine l (line l)
  line_on l = walls-on solid shape l (crossings_on l xs) (start l) (opened true (solid (start l)) none (open_end low))

  from_first : (k l : ℕ) → From l (lines_by solid start shape k l xs)
  from_first zero l = rw (by_none solid start shape l xs) tt
  from_first (suc k) l = rw (by_more solid start shape k l xs) (from_app l (line l) (lines_by solid start shape k (suc l) xs) (line_on l) (from_first k (suc l)))

  pub lines_rise : (rows : ℕ) → Sorted xs → Kept rows xs → (k l : ℕ) → Rising (lines_by solid start shape k l xs)
  lines_rise rows so ke zero l = rw (by_none solid start shape l xs) tt
  lines_rise rows so ke (suc k) l =
      rw (by_more solid start shape k l xs)
      (rising_app l (line l) (lines_by solid start shape k (suc l) xs) (line_rises solid shape l (crossings_on l xs) (start l) (line-placed rows l xs so ke)) (line_on l) (lines_rise rows so ke k (suc l)) (from_first k (suc l)))

  abbrev meant : ℕ → ℤ → Bool
  meant m p = le_z low p && (lt_z p high && solid (state_at start xs m p))

  here : (rows l : ℕ) (p : ℤ) → Sorted xs → Kept rows xs → covers l p (line l) ≡ meant l p
  here rows l p so ke =
      line_cells solid shape l p (crossings_on l xs) (start l) (line-placed rows l xs so ke)
      ∙ ap (λ (state : State). le_z low p && (lt_z p high && solid state)) (along-state_at start xs l p)

  before : (k l m : ℕ) (p : ℤ) → m < l → covers m p (lines_by solid start shape k l xs) ≡ false
  unfolding covers
  before zero l m p h = rw (by_none solid start shape l xs)
  before (suc k) l m p h =
      ap (covers m p) (by_more solid start shape k l xs) ∙ covers_app m p (line l) (lines_by solid start shape k (suc l) xs)
      ∙ rw (covers-other l m p (line l) (line_on l) (omega arith)) (before k (suc l) m p (omega arith))

  pub lines_cells : (rows : ℕ) → Sorted xs → Kept rows xs → (k l m : ℕ) (p : ℤ) → l ≤ m → covers m p (lines_by solid start shape k l xs) ≡ (ltb m (l + k) && meant m p)
  unfolding covers
  lines_cells rows so ke zero l m p h = rw (by_none solid start shape l xs, le-ltb m (l + 0) (omega arith))
  lines_cells rows so ke (suc k) l m p h =
      ap (covers m p) (by_more solid start shape k l xs) ∙ covers_app m p (line l) (lines_by solid start shape k (suc l) xs) ∙ by (dec_lt l m) (lines_cells rows so ke k (suc l) m p)
    where
      by : Dec (l < m) → (suc l ≤ m → covers m p (lines_by solid start shape k (suc l) xs) ≡ (ltb m (suc l + k) && meant m p))
          → (covers m p (line l) || covers m p (lines_by solid start shape k (suc l) xs)) ≡ (ltb m (l + suc k) && meant m p)
      by (yes d) ih =
          let e : suc l + k ≡ l + suc k = omega arith in
          rw (covers-other l m p (line l) (line_on l) (omega arith)) (ih d ∙ ap (λ (n : ℕ). ltb m n && meant m p) e)
      by (no d) ih =
          let e : l ≡ m = omega arith in
          rw (lt-ltb m (l + suc k) (omega arith), ← e, before k (suc l) l p (omega arith)) (or-false _ ∙ here rows l p so ke)
