-- A line that the reach judges right has no shape at fault.
use Prim.Native.Nat.{ℕ, suc, ◌+◌, ◌*◌, ◌<◌}
use native.Mathlib.Omega.{arith}
use mathlib.Core.Path.{◌≡◌, refl, sym, ap, ◌∙◌}
use mathlib.Core.Bool.{Bool, true, false, cond, ◌&&◌, true≢false, and-eq-true_iff}
use mathlib.Core.List.{List, [], ◌∷◌}
use mathlib.Core.Option.{Option, none, some}
use borrow.Author.Tests.{le-ltb}
use lib.Dec.{eqb}
use lib.IntN.{ℤ}
use lib.Signed.{lt_z}
use lib.ListN.{length, drop, get_or}
use lib.Ieee.{Float, lt}
use Rattle.outcome.specs.Outcome.{given}
use Rattle.cross_positions.specs.Positions.{position}
use Rattle.cross_cuts.specs.Cuts.{Cut, fault, cut, sound, faultless}
use Rattle.cross_shapes.specs.Shapes.{finite, is_zero, zero_float, on, origin_on, component_on, crossed_once, face_cut, half_space_cut, Range, wrong, missed, free, from, between, axis_range, meet, box_range, crossed_twice, box_cut, shape_cut}
use Rattle.cross_shapes.specs.declared.Probe.{Probe}
use Rattle.cross_shapes.specs.declared.Shape.{Shape}
use Rattle.cross_shapes.specs.declared.Shape.TheVariants.{HalfSpace, Block}
use Rattle.cross_line.specs.Crossing.{good_probe, shape_cuts}
use Rattle.cross_line.specs.Lent.{shape_from}
use Rattle.cross_line.proofs.LentLaws.{length-cuts, cut_at}
use Rattle.cross_quick.specs.Given.{given as is_given, is_there}
use Rattle.cross_drawn.specs.Asking.{line_judged}
use Rattle.cross_reach.specs.Reach.{Reaches, AllGiven}
use Rattle.cross_judge.specs.Covering.{PairWithin, Within, Covers, NoFault}
use Rattle.cross_judge.specs.declared.Reach.{Reach}
use Rattle.cross_judge.proofs.GrowLaws.{pair-finite}

-- ---- no position that may not be given
abbrev right : Range → Bool
right wrong = false
right missed = true
right free = true
right (from a b) = true

meet_right : (r s : Range) → right r ≡ true → right s ≡ true → right (meet r s) ≡ true
meet_right wrong s p q = p
meet_right free s p q = q
meet_right missed wrong p q = q
meet_right missed missed p q = refl
meet_right missed free p q = refl
meet_right missed (from c d) p q = refl
meet_right (from a b) wrong p q = q
meet_right (from a b) missed p q = refl
meet_right (from a b) free p q = refl
meet_right (from a b) (from c d) p q = refl

between-right : (p q : Option ℤ) → is_there p ≡ true → is_there q ≡ true → right (between p q) ≡ true
between-right none q h k = h
between-right (some p) none h k = k
between-right (some p) (some q) h k = refl

once_sound : (inside : Bool) (p : Option ℤ) → is_there p ≡ true → sound (crossed_once inside p) ≡ true
once_sound inside none h = h
once_sound inside (some p) h = refl

twice-sound : (r : Range) → right r ≡ true → sound (crossed_twice r) ≡ true
twice-sound wrong h = h
twice-sound missed h = refl
twice-sound free h = refl
twice-sound (from a b) h = by (lt_z a b)
  where
    by : (t : Bool) → sound (cond t (cut false (a ∷ b ∷ [])) (cut false [])) ≡ true
    by true = refl
    by false = refl

-- ---- one axis
module _ (reach origin component : Float) (all : AllGiven reach origin component) where
  there : is_zero component ≡ false → (face : Float) → finite face ≡ true → Reaches reach face → is_there (position face origin component) ≡ true
  unfolding is_given
  there z face f r = all.each z face f r

  face_sound : (face : Float) → finite face ≡ true → Reaches reach face → sound (face_cut face origin component) ≡ true
  face_sound face f r = by (is_zero component) refl
    where
      by : (z : Bool) → is_zero component ≡ z → sound (cond z (cut (lt origin face) []) (crossed_once (lt zero_float component) (position face origin component))) ≡ true
      by true e = refl
      by false e = once_sound (lt zero_float component) (position face origin component) (there e face f r)

  axis-right : (low high : Float) → PairWithin reach low high → right (axis_range low high origin component) ≡ true
  unfolding axis_range
  axis-right low high w = by (is_zero component) refl (lt low origin && lt origin high)
    where
      by : (z : Bool) → is_zero component ≡ z → (b : Bool) → right (cond z (cond b free missed) (between (position low origin component) (position high origin component))) ≡ true
      by true e true = refl
      by true e false = refl
      by false e b =
          let f = pair-finite low high w.sound in
          between-right (position low origin component) (position high origin component) (there e low f.0 w.first) (there e high f.1 w.last)

-- ---- one shape
module _ (probe : Probe) (reach : Reach) (x : AllGiven reach.x probe.ox probe.dx) (y : AllGiven reach.y probe.oy probe.dy) (z : AllGiven reach.z probe.oz probe.dz) where
  on-axis : (axis : ℕ) (a b : Bool) → eqb axis 0 ≡ a → eqb axis 1 ≡ b → AllGiven (on axis reach.x reach.y reach.z) (origin_on probe axis) (component_on probe axis)
  on-axis axis true b e f = rw e x
  on-axis axis false true e f = rw (e, f) y
  on-axis axis false false e f = rw (e, f) z

  shape-sound : (shape : Shape) → Within reach shape → sound (shape_cut probe shape) ≡ true
  unfolding half_space_cut box_cut box_range
  shape-sound (HalfSpace axis face) w =
      rw (le-ltb 2 axis w.an_axis, w.a_number)
      (face_sound (on axis reach.x reach.y reach.z) (origin_on probe axis) (component_on probe axis) (on-axis axis (eqb axis 0) (eqb axis 1) refl refl) face w.a_number w.reached)
  shape-sound (Block b) w =
      let rx = axis-right reach.x probe.ox probe.dx x b.lx b.hx w.0 in
      let ry = axis-right reach.y probe.oy probe.dy y b.ly b.hy w.1.0 in
      let rz = axis-right reach.z probe.oz probe.dz z b.lz b.hz w.1.1 in
      let xy = meet (axis_range b.lx b.hx probe.ox probe.dx) (axis_range b.ly b.hy probe.oy probe.dy) in
      rw (w.0.sound, w.1.0.sound, w.1.1.sound)
      (twice-sound (meet xy (axis_range b.lz b.hz probe.oz probe.dz))
      (meet_right xy (axis_range b.lz b.hz probe.oz probe.dz) (meet_right (axis_range b.lx b.hx probe.ox probe.dx) (axis_range b.ly b.hy probe.oy probe.dy) rx ry) rz))

-- ---- all shapes
none-at-fault : (number i : ℕ) (cuts : List Cut) → ((j : ℕ) → j < length cuts → sound (get_or cuts j fault) ≡ true) → faultless number i cuts ≡ given tt
unfolding faultless
none-at-fault number i [] h = refl
none-at-fault number i (c ∷ cuts) h = rw (h 0 (omega arith)) (none-at-fault number (i + 1) cuts (λ j less. h (suc j) (omega arith)))

module _ (probe : Probe) (reach : Reach) (w : Bool) (says : w ≡ good_probe probe) (good : w ≡ true) where
  covered : reach.good ≡ true → AllGiven reach.x probe.ox probe.dx → AllGiven reach.y probe.oy probe.dy → AllGiven reach.z probe.oz probe.dz → (kinds : List ℕ) (numbers : List Float)
      → Covers kinds numbers (length kinds) reach → line_judged kinds numbers probe ≡ given tt
  unfolding line_judged
  covered sound-shapes x y z kinds numbers covers =
      rw (sym says ∙ good)
      (none-at-fault 16 0 (shape_cuts probe kinds numbers)
      (λ j less.
      let few : j < length kinds = omega (arith, length-cuts probe kinds numbers) in
      ap sound (cut_at probe kinds numbers j few) ∙ shape-sound probe reach x y z (shape_from (get_or kinds j 0) (drop (6 * j) numbers)) (covers.each sound-shapes j few)))

  pub no_fault : (x y z : Bool) → (x ≡ true → AllGiven reach.x probe.ox probe.dx) → (y ≡ true → AllGiven reach.y probe.oy probe.dy) → (z ≡ true → AllGiven reach.z probe.oz probe.dz)
      → (reach.good && (x && (y && z))) ≡ true → NoFault probe reach
  no_fault x y z gx gy gz h =
      let a = (and-eq-true_iff reach.good (x && (y && z))).0 h in
      let b = (and-eq-true_iff x (y && z)).0 a.1 in
      let c = (and-eq-true_iff y z).0 b.1 in
      record { right = covered a.0 (gx b.0) (gy c.0) (gz c.1) }

pub never : (probe : Probe) (reach : Reach) → false ≡ true → NoFault probe reach
never probe reach e = absurd (true≢false (sym e))
