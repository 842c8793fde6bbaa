-- The walls found name, at each end, the shape at that position of their own line; at an end mark it is 65535.
use Prim.Native.Nat.{ℕ, zero, suc}
use mathlib.Core.Path.{◌≡◌, refl, sym}
use mathlib.Core.Bool.{Bool, true, false}
use mathlib.Core.List.{List, [], ◌∷◌, ◌++◌}
use mathlib.Core.Option.{Option, none, some}
use lib.IntN.{ℤ}
use Rattle.formula.specs.States.{State, flipped}
use Rattle.lines.specs.Lines.{Crossing, low, high, Wall, Edge, edge_at, open_end, ends_group, opened, closed, walls_on, crossings_on}
use Rattle.lines.proofs.LinesBy.{walls_on_nil, walls_on_cons, walls_of, lines_by, by_none, by_more}

module _ (shape : ℕ → ℤ → ℕ) where
  abbrev pub Shaped : List Wall → Type 0
  Shaped [] = Unit {0}
  Shaped (w ∷ ws) = ((w.start_shape ≡ shape w.line w.start) × (w.end_shape ≡ shape w.line w.end)) × Shaped ws

  shaped_app : (a b : List Wall) → Shaped a → Shaped b → Shaped (a ++ b)
  shaped_app [] b h k = k
  shaped_app (w ∷ a) b h k = (h.0, shaped_app a b h.1 k)

  -- the open wall began with the shape there
  abbrev Traced : ℕ → Option Edge → Type 0
  Traced l none = Unit {0}
  Traced l (some a) = a.shape ≡ shape l a.at

  shaped_closed : (l : ℕ) (e m : Bool) (from : Option Edge) (here : Edge) → Traced l from → here.shape ≡ shape l here.at → Shaped (closed e m from l here)
  shaped_closed l false m from here t h = tt
  shaped_closed l true true from here t h = tt
  shaped_closed l true false none here t h = tt
  shaped_closed l true false (some a) here t h = ((t, h), tt)

  traced_on : (l : ℕ) (e m : Bool) (from : Option Edge) (here : Edge) → Traced l from → here.shape ≡ shape l here.at → Traced l (opened e m from here)
  traced_on l false m from here t h = t
  traced_on l true true none here t h = h
  traced_on l true true (some a) here t h = t
  traced_on l true false from here t h = tt

  module _ (solid : State → Bool) (start : ℕ → State) (at_low : (l : ℕ) → shape l low ≡ 65535) (at_high : (l : ℕ) → shape l high ≡ 65535) where
    shaped_line : (l : ℕ) (xs : List Crossing) (state : State) (from : Option Edge) → Traced l from → Shaped (walls_on solid shape l state from xs)
    shaped_line l [] state from t = rw (walls_on_nil solid shape l state from) (shaped_closed l true false from (open_end high) t (sym (at_high l)))
    shaped_line l (x ∷ xs) state from t =
        let e : Bool = ends_group x xs in
        let state' : State = flipped x.shape state in
        let here : Edge = edge_at shape l x.at in
        let from' : Option Edge = opened e (solid state') from here in
        rw (walls_on_cons solid shape l state from x xs)
        (shaped_app (closed e (solid state') from l here) (walls_on solid shape l state' from' xs) (shaped_closed l e (solid state') from here t refl) (shaped_line l xs state' from' (traced_on l e (solid state') from here t refl)))

    pub lines_shaped : (k l : ℕ) (xs : List Crossing) → Shaped (lines_by solid start shape k l xs)
    lines_shaped zero l xs = rw (by_none solid start shape l xs) tt
    lines_shaped (suc k) l xs =
        let from : Option Edge = opened true (solid (start l)) none (open_end low) in
        rw (by_more solid start shape k l xs)
        (shaped_app (walls_of solid start shape l (crossings_on l xs)) (lines_by solid start shape k (suc l) xs)
        (shaped_line l (crossings_on l xs) (start l) from (traced_on l true (solid (start l)) none (open_end low) tt (sym (at_low l)))) (lines_shaped k (suc l) xs))
