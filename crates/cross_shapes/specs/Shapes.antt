-- What a probe line has of one shape: document 02, 'Crossings from the drawing's own numbers'.
use Rattle.std.specs.Prelude.{ℕ, Bool, true, false, cond, ◌&&◌, [], ◌∷◌, ltb, eqb, ℤ, pos, Float}
use Rattle.std.proofs.Math.Option.{Option, none, some}
use Rattle.std.specs.Int.Signed.{lt_z}
use Rattle.std.specs.Float.{nan, inf, fin}
use Rattle.std.specs.Float.Ieee.{lt, eq}
use Rattle.cross_positions.specs.Positions.{position}
use Rattle.cross_cuts.specs.Cuts.{Cut, fault, cut}
use Rattle.cross_shapes.specs.declared.Probe.{Probe}
use Rattle.cross_shapes.specs.declared.Shape.{Shape}
use Rattle.cross_shapes.specs.declared.Shape.TheVariants.{HalfSpace, Block}

unfoldable pub finite : Float → Bool
finite nan = false
finite (inf s) = false
finite (fin s m e) = true

abbrev pub zero_float : Float
zero_float = fin false 0 (pos 0)

-- "Zero, of either sign": both equal 0.
unfoldable pub is_zero : Float → Bool
is_zero x = eq x zero_float

-- ---- A half-space, solid below its face

abbrev pub on : ℕ → Float → Float → Float → Float
on axis x y z = cond (eqb axis 0) x (cond (eqb axis 1) y z)

abbrev pub origin_on : Probe → ℕ → Float
origin_on probe axis = on axis probe.ox probe.oy probe.oz

abbrev pub component_on : Probe → ℕ → Float
component_on probe axis = on axis probe.dx probe.dy probe.dz

-- At fault where the face has a position that may not be given.
abbrev pub crossed_once : Bool → Option ℤ → Cut
crossed_once inside none = fault
crossed_once inside (some p) = cut inside (p ∷ [])

-- "Where a component is zero .. a half-space starts inside if the origin is strictly below its face. Otherwise a half-space has one
-- crossing and starts inside exactly if that component is positive."
abbrev pub face_cut : Float → Float → Float → Cut
face_cut face origin component =
    cond (is_zero component)
    (cut (lt origin face) [])
    (crossed_once (lt zero_float component) (position face origin component))

-- At fault: "an axis above 2, a number not finite".
unfoldable pub half_space_cut : Probe → ℕ → Float → Cut
half_space_cut probe axis face =
    cond (ltb 2 axis) fault
    (cond (finite face) (face_cut face (origin_on probe axis) (component_on probe axis)) fault)

-- ---- A box

unfoldable pub lesser : ℤ → ℤ → ℤ
lesser a b = cond (lt_z a b) a b

unfoldable pub greater : ℤ → ℤ → ℤ
greater a b = cond (lt_z a b) b a

-- What a line has of a box on some of the axes: a position that may not be given; a miss; neither a position nor a miss; or the
-- greatest of the lesser positions and the least of the greater ones.
pub data Range : Type 0 where
  wrong missed free : Range
  from : ℤ → ℤ → Range

-- The lesser and the greater position of one axis.
abbrev pub between : Option ℤ → Option ℤ → Range
between none q = wrong
between (some p) none = wrong
between (some p) (some q) = from (lesser p q) (greater p q)

-- "Where a component is zero, of either sign, that axis has no position: a box is missed unless the origin lies strictly between its faces."
unfoldable pub axis_range : Float → Float → Float → Float → Range
axis_range low high origin component =
    cond (is_zero component)
    (cond (lt low origin && lt origin high) free missed)
    (between (position low origin component) (position high origin component))

-- "A box is entered at the greatest, over the axes, of its lesser positions and left at the least of its greater ones." A position that
-- may not be given counts "of a missed box too".
abbrev pub meet : Range → Range → Range
meet wrong t = wrong
meet free t = t
meet missed wrong = wrong
meet missed missed = missed
meet missed free = missed
meet missed (from c d) = missed
meet (from a b) wrong = wrong
meet (from a b) missed = missed
meet (from a b) free = from a b
meet (from a b) (from c d) = from (greater a c) (lesser b d)

unfoldable pub box_range : Probe → Float → Float → Float → Float → Float → Float → Range
box_range probe lx ly lz hx hy hz =
    meet (meet (axis_range lx hx probe.ox probe.dx) (axis_range ly hy probe.oy probe.dy)) (axis_range lz hz probe.oz probe.dz)

-- "And has two crossings if the first is smaller, else none." A box starts outside.
abbrev pub crossed_twice : Range → Cut
crossed_twice wrong = fault
crossed_twice missed = cut false []
crossed_twice free = cut false []
crossed_twice (from a b) = cond (lt_z a b) (cut false (a ∷ b ∷ [])) (cut false [])

-- At fault: "a number not finite, a low not below its high".
unfoldable pub good_pair : Float → Float → Bool
good_pair low high = finite low && (finite high && lt low high)

unfoldable pub box_cut : Probe → Float → Float → Float → Float → Float → Float → Cut
box_cut probe lx ly lz hx hy hz =
    cond (good_pair lx hx && (good_pair ly hy && good_pair lz hz)) (crossed_twice (box_range probe lx ly lz hx hy hz)) fault

-- ---- Either

abbrev pub shape_cut : Probe → Shape → Cut
shape_cut probe (HalfSpace axis face) = half_space_cut probe axis face
shape_cut probe (Block b) = box_cut probe b.lx b.ly b.lz b.hx b.hy b.hz
