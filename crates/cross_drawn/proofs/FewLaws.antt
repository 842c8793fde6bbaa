-- A line has at most two crossings of a shape.
use Prim.Native.Nat.{ℕ, suc, ◌+◌, ◌*◌, ◌≤◌}
use native.Mathlib.Omega.{arith}
use mathlib.Core.Path.{◌≡◌}
use mathlib.Core.Bool.{Bool, true, false, cond, ◌&&◌}
use mathlib.Core.List.{List, [], ◌∷◌, map}
use mathlib.Core.Option.{Option, none, some}
use lib.Dec.{ltb}
use lib.IntN.{ℤ}
use lib.ListN.{length, length-append, length-map}
use lib.Signed.{lt_z}
use lib.Ieee.{Float, lt}
use Rattle.cross_order.proofs.OrderLaws.{length-ordered_by}
use Rattle.cross_positions.specs.Positions.{position}
use Rattle.cross_cuts.specs.Cuts.{Cut, fault, cut, positions_of, LineCrossing, crossed_at, crossings_from, before, line_crossings}
use Rattle.cross_shapes.specs.Shapes.{finite, is_zero, zero_float, origin_on, component_on, crossed_once, face_cut, half_space_cut, Range, wrong, missed, free, from, crossed_twice, good_pair, box_range, box_cut, shape_cut}
use Rattle.cross_shapes.specs.declared.Probe.{Probe}
use Rattle.cross_shapes.specs.declared.Shape.{Shape}
use Rattle.cross_shapes.specs.declared.Shape.TheVariants.{HalfSpace, Block}
use Rattle.cross_line.specs.Crossing.{shape_cuts}
use Rattle.cross_line.specs.Lent.{shapes_of}
use Rattle.cross_line.proofs.LentLaws.{length-cuts}
use Rattle.cross_drawn.specs.Drawn.{lines_from, drawn}

abbrev Few : Cut → Type 0
Few c = length (positions_of c) ≤ 2

few_of : (b : Bool) (x y : Cut) → Few x → Few y → Few (cond b x y)
few_of true x y h k = h
few_of false x y h k = k

once_few : (inside : Bool) (p : Option ℤ) → Few (crossed_once inside p)
once_few inside none = omega arith
once_few inside (some p) = omega arith

twice_few : (r : Range) → Few (crossed_twice r)
twice_few wrong = omega arith
twice_few missed = omega arith
twice_few free = omega arith
twice_few (from a b) = few_of (lt_z a b) (cut false (a ∷ b ∷ [])) (cut false []) (omega arith) (omega arith)

face_few : (face origin component : Float) → Few (face_cut face origin component)
face_few face origin component =
    few_of (is_zero component) (cut (lt origin face) []) (crossed_once (lt zero_float component) (position face origin component)) (omega arith)
    (once_few (lt zero_float component) (position face origin component))

shape_few : (probe : Probe) (shape : Shape) → Few (shape_cut probe shape)
unfolding half_space_cut box_cut
shape_few probe (HalfSpace axis face) =
    let here = face_cut face (origin_on probe axis) (component_on probe axis) in
    few_of (ltb 2 axis) fault (cond (finite face) here fault) (omega arith) (few_of (finite face) here fault (face_few face (origin_on probe axis) (component_on probe axis)) (omega arith))
shape_few probe (Block b) =
    let range = box_range probe b.lx b.ly b.lz b.hx b.hy b.hz in
    few_of (good_pair b.lx b.hx && (good_pair b.ly b.hy && good_pair b.lz b.hz)) (crossed_twice range) fault (twice_few range) (omega arith)

shapes_few : (probe : Probe) (i : ℕ) (shapes : List Shape) → length (crossings_from i (map (λ shape. shape_cut probe shape) shapes)) ≤ 2 * length shapes
unfolding crossings_from
shapes_few probe i [] = omega arith
shapes_few probe i (s ∷ shapes) =
    let here = positions_of (shape_cut probe s) in
    let rest = crossings_from (i + 1) (map (λ shape. shape_cut probe shape) shapes) in
    omega (arith, length-append (map (λ p. crossed_at p i) here) rest, length-map here (λ p. crossed_at p i), shape_few probe s, shapes_few probe (i + 1) shapes)

line_few : (probe : Probe) (kinds : List ℕ) (numbers : List Float) → length (line_crossings (shape_cuts probe kinds numbers)) ≤ 2 * length kinds
line_few probe kinds numbers =
    omega (
      arith,
      length-ordered_by before (crossings_from 0 (shape_cuts probe kinds numbers)),
      shapes_few probe 0 (shapes_of kinds numbers),
      length-cuts probe kinds numbers,
      length-map (shapes_of kinds numbers) (λ shape. shape_cut probe shape),
    )

-- ---- two a shape and line
pub lines_few : (n : ℕ) (kinds : List ℕ) (numbers : List Float) (probes : List Probe) → length (lines_from n (drawn kinds numbers probes)) ≤ 2 * (length kinds * length probes)
unfolding lines_from
lines_few n kinds numbers [] = omega arith
lines_few n kinds numbers (p ∷ probes) =
    let here = line_crossings (shape_cuts p kinds numbers) in
    let more : length kinds * suc (length probes) ≡ length kinds + length kinds * length probes = omega arith in
    omega (
      arith,
      more,
      length-append (map (λ (c : LineCrossing). n) here) (lines_from (suc n) (drawn kinds numbers probes)),
      length-map here (λ (c : LineCrossing). n),
      line_few p kinds numbers,
      lines_few (suc n) kinds numbers probes,
    )
