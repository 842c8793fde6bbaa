-- Every position that a shape is crossed at lies in the range that may be given.
use mathlib.Core.Path.{◌≡◌, refl}
use Prim.Native.Nat.{ℕ}
use mathlib.Core.Bool.{Bool, true, false, cond, ◌&&◌}
use mathlib.Core.List.{[], ◌∷◌}
use mathlib.Core.Option.{Option, none, some}
use lib.Dec.{ltb}
use lib.IntN.{ℤ}
use lib.Signed.{lt_z}
use lib.Ieee.{Float, lt}
use Rattle.cross_positions.specs.Positions.{distance, nearest_whole, allowed, in_range, position}
use Rattle.cross_cuts.specs.Cuts.{Cut, fault, cut, positions_of}
use Rattle.cross_cuts.specs.Every.{Every}
use Rattle.cross_shapes.specs.Shapes.{finite, zero_float, is_zero, origin_on, component_on, crossed_once, face_cut, half_space_cut, lesser, greater, Range, wrong, missed, free, from, between, axis_range, meet, box_range, crossed_twice, good_pair, box_cut, shape_cut}
use Rattle.cross_shapes.specs.declared.Probe.{Probe}
use Rattle.cross_shapes.specs.declared.Shape.{Shape}
use Rattle.cross_shapes.specs.declared.Shape.TheVariants.{HalfSpace, Block}

abbrev Allowed : Cut → Type 0
Allowed c = Every allowed (positions_of c)

either : (t : Bool) (c d : Cut) → Allowed c → Allowed d → Allowed (cond t c d)
either true c d p q = p
either false c d p q = q

-- ---- positions
abbrev AllowedAt : Option ℤ → Type 0
AllowedAt none = Unit {0}
AllowedAt (some z) = allowed z ≡ true

in-range : (p : Option ℤ) → AllowedAt (in_range p)
in-range none = tt
in-range (some z) = by (allowed z) refl
  where
    by : (t : Bool) → allowed z ≡ t → AllowedAt (cond t (some z) none)
    by true e = e
    by false e = tt

position-allowed : (face origin component : Float) → AllowedAt (position face origin component)
position-allowed face origin component = in-range (nearest_whole (distance face origin component))

-- ---- half-spaces
once_allowed : (inside : Bool) (p : Option ℤ) → AllowedAt p → Allowed (crossed_once inside p)
once_allowed inside none h = tt
once_allowed inside (some p) h = (h, tt)

face_allowed : (face origin component : Float) → Allowed (face_cut face origin component)
face_allowed face origin component =
    either (is_zero component) (cut (lt origin face) []) (crossed_once (lt zero_float component) (position face origin component)) tt
    (once_allowed (lt zero_float component) (position face origin component) (position-allowed face origin component))

half_allowed : (probe : Probe) (axis : ℕ) (face : Float) → Allowed (half_space_cut probe axis face)
unfolding half_space_cut
half_allowed probe axis face =
    either (ltb 2 axis) fault (cond (finite face) (face_cut face (origin_on probe axis) (component_on probe axis)) fault) tt
    (either (finite face) (face_cut face (origin_on probe axis) (component_on probe axis)) fault (face_allowed face (origin_on probe axis) (component_on probe axis)) tt)

-- ---- boxes
abbrev Within : Range → Type 0
Within wrong = Unit {0}
Within missed = Unit {0}
Within free = Unit {0}
Within (from a b) = (allowed a ≡ true) × (allowed b ≡ true)

pick : (t : Bool) (a b : ℤ) → allowed a ≡ true → allowed b ≡ true → allowed (cond t a b) ≡ true
pick true a b h k = h
pick false a b h k = k

between-within : (p q : Option ℤ) → AllowedAt p → AllowedAt q → Within (between p q)
unfolding lesser greater
between-within none q h k = tt
between-within (some p) none h k = tt
between-within (some p) (some q) h k = (pick (lt_z p q) p q h k, pick (lt_z p q) q p k h)

axis-within : (low high origin component : Float) → Within (axis_range low high origin component)
unfolding axis_range
axis-within low high origin component = by (is_zero component) (lt low origin && lt origin high)
  where
    by : (z w : Bool) → Within (cond z (cond w free missed) (between (position low origin component) (position high origin component)))
    by true true = tt
    by true false = tt
    by false w = between-within (position low origin component) (position high origin component) (position-allowed low origin component) (position-allowed high origin component)

meet_within : (s t : Range) → Within s → Within t → Within (meet s t)
unfolding lesser greater
meet_within wrong t h k = tt
meet_within free t h k = k
meet_within missed wrong h k = tt
meet_within missed missed h k = tt
meet_within missed free h k = tt
meet_within missed (from c d) h k = tt
meet_within (from a b) wrong h k = tt
meet_within (from a b) missed h k = tt
meet_within (from a b) free h k = h
meet_within (from a b) (from c d) h k = (pick (lt_z a c) c a k.0 h.0, pick (lt_z b d) b d h.1 k.1)

box_within : (probe : Probe) (lx ly lz hx hy hz : Float) → Within (box_range probe lx ly lz hx hy hz)
unfolding box_range
box_within probe lx ly lz hx hy hz =
    meet_within (meet (axis_range lx hx probe.ox probe.dx) (axis_range ly hy probe.oy probe.dy)) (axis_range lz hz probe.oz probe.dz)
    (meet_within (axis_range lx hx probe.ox probe.dx) (axis_range ly hy probe.oy probe.dy) (axis-within _ _ _ _) (axis-within _ _ _ _))
    (axis-within _ _ _ _)

twice-allowed : (r : Range) → Within r → Allowed (crossed_twice r)
twice-allowed wrong h = tt
twice-allowed missed h = tt
twice-allowed free h = tt
twice-allowed (from a b) h = either (lt_z a b) (cut false (a ∷ b ∷ [])) (cut false []) (h.0, (h.1, tt)) tt

box_allowed : (probe : Probe) (lx ly lz hx hy hz : Float) → Allowed (box_cut probe lx ly lz hx hy hz)
unfolding box_cut
box_allowed probe lx ly lz hx hy hz =
    either (good_pair lx hx && (good_pair ly hy && good_pair lz hz)) (crossed_twice (box_range probe lx ly lz hx hy hz)) fault (twice-allowed (box_range probe lx ly lz hx hy hz) (box_within probe lx ly lz hx hy hz)) tt

-- ---- either
pub shape_in_range : (probe : Probe) (shape : Shape) → Every allowed (positions_of (shape_cut probe shape))
shape_in_range probe (HalfSpace axis face) = half_allowed probe axis face
shape_in_range probe (Block b) = box_allowed probe b.lx b.ly b.lz b.hx b.hy b.hz
