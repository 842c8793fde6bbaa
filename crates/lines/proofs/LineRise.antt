-- The walls of one line rise, have positive length and never touch.
use Prim.Native.Nat.{ℕ}
use native.Mathlib.Omega.{arith}
use mathlib.Core.Path.{◌≡◌, refl, sym}
use mathlib.Core.Bool.{Bool, true, false}
use mathlib.Core.List.{List, [], ◌∷◌, ◌++◌}
use mathlib.Core.Option.{Option, none, some}
use borrow.Author.Tests.{eq-eqb, le-ltb}
use lib.IntN.{ℤ}
use lib.Signed.{lt_z, le_z}
use Rattle.formula.specs.States.{State, flipped}
use Rattle.lines.specs.Lines.{Crossing, low, high, Wall, Edge, edge_at, open_end, ends_group, opened, closed, walls_on}
use Rattle.lines.specs.Right.{Rising}
use Rattle.lines.proofs.Keys.{trans, le_z_self, lt_le}
use Rattle.lines.proofs.Placed.{next, Placed, above_low, ends_lt, Opened, opened-on, entered_below}
use Rattle.lines.proofs.LinesBy.{walls_on_nil, walls_on_cons}

-- where the first wall begins: where the open one did, or at q or beyond
abbrev First : Option Edge → ℕ → ℤ → List Wall → Type 0
First from l q [] = Unit {0}
First none l q (v ∷ vs) = (v.line ≡ l) × (le_z q v.start ≡ true)
First (some a) l q (v ∷ vs) = (v.line ≡ l) × (v.start ≡ a.at)

module _ (shape : ℕ → ℤ → ℕ) (l : ℕ) (x : Crossing) (xs : List Crossing) (h : Placed (x ∷ xs)) where
  abbrev here : Edge
  here = edge_at shape l x.at

  rise : (e : Bool) → ends_group x xs ≡ e → (m : Bool) (from : Option Edge) → Opened from x.at → (ws : List Wall) → Rising ws → First (opened e m from here) l (next xs) ws
      → Rising (closed e m from l here ++ ws) × First from l x.at (closed e m from l here ++ ws)
  rise e q m from op [] r f = end e m from op
    where
      end : (e m : Bool) (from : Option Edge) → Opened from x.at → Rising (closed e m from l here ++ []) × First from l x.at (closed e m from l here ++ [])
      end false m from op = (tt, tt)
      end true true from op = (tt, tt)
      end true false none op = (tt, tt)
      end true false (some a) op = ((op, (tt, tt)), (refl, refl))
  rise false q m none op (v ∷ vs) r f = (r, (f.0, trans x.at (next xs) v.start h.1.0 f.1))
  rise false q m (some a) op (v ∷ vs) r f = (r, f)
  rise true q true none op (v ∷ vs) r f = (r, (f.0, rw f.1 (le_z_self x.at)))
  rise true q true (some a) op (v ∷ vs) r f = (r, f)
  rise true q false none op (v ∷ vs) r f = (r, (f.0, trans x.at (next xs) v.start h.1.0 f.1))
  rise true q false (some a) op (v ∷ vs) r f =
      let k : lt_z x.at v.start ≡ true = lt_le x.at (next xs) v.start (ends_lt x xs h q) f.1 in
      ((op, (rw (le-ltb l v.line (omega (arith, f.0)), eq-eqb l v.line (sym f.0), k), r)), (refl, refl))

module _ (solid : State → Bool) (shape : ℕ → ℤ → ℕ) (l : ℕ) where
  rises : (xs : List Crossing) (state : State) (from : Option Edge) → Placed xs → Opened from (next xs)
      → Rising (walls_on solid shape l state from xs) × First from l (next xs) (walls_on solid shape l state from xs)
  rises [] state from h op = rw (walls_on_nil solid shape l state from) (by from op)
    where
      by : (o : Option Edge) → Opened o high → Rising (closed true false o l (open_end high)) × First o l high (closed true false o l (open_end high))
      by none op = (tt, tt)
      by (some a) op = ((op, (tt, tt)), (refl, refl))
  rises (x ∷ xs) state from h op =
      let state' : State = flipped x.shape state in
      let m : Bool = solid state' in
      let from' : Option Edge = opened (ends_group x xs) m from (edge_at shape l x.at) in
      let r = rises xs state' from' h.1.1 (opened-on x xs (shape l x.at) m from h op) in
      rw (walls_on_cons solid shape l state from x xs) (rise shape l x xs h (ends_group x xs) refl m from op (walls_on solid shape l state' from' xs) r.0 r.1)

  pub line_rises : (xs : List Crossing) (state : State) → Placed xs → Rising (walls_on solid shape l state (opened true (solid state) none (open_end low)) xs)
  line_rises xs state h = (rises xs state (opened true (solid state) none (open_end low)) h (entered_below (solid state) (next xs) (above_low xs h))).0
