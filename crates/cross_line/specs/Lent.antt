-- The shapes as they are lent: a byte a shape, and six numbers a shape. There are as many shapes as bytes; numbers past the last shape are
-- not looked at.
use Rattle.std.specs.Prelude.{ℕ, cond, List, [], ◌∷◌, eqb, drop, get_or, Float}
use Rattle.std.specs.Float.{nan}
use Rattle.cross_shapes.specs.declared.Shape.{Shape}
use Rattle.cross_shapes.specs.declared.Shape.TheVariants.{HalfSpace, Block}

-- A byte of 255 is a box, three lows and then three highs; any other is the axis of a half-space, whose face is the first of the six.
-- A number that the list lacks is not finite.
abbrev pub shape_from : ℕ → List Float → Shape
shape_from kind numbers =
    cond (eqb kind 255)
    (Block (record {
      lx = get_or numbers 0 nan;
      ly = get_or numbers 1 nan;
      lz = get_or numbers 2 nan;
      hx = get_or numbers 3 nan;
      hy = get_or numbers 4 nan;
      hz = get_or numbers 5 nan;
    }))
    (HalfSpace kind (get_or numbers 0 nan))

unfoldable pub shapes_of : List ℕ → List Float → List Shape
shapes_of [] numbers = []
shapes_of (kind ∷ kinds) numbers = shape_from kind numbers ∷ shapes_of kinds (drop 6 numbers)
