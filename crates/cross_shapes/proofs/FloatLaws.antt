-- The code's tests on floats: 0, and whether a number is finite.
use mathlib.Core.Path.{◌≡◌, refl}
use lib.Ieee.{Float, nan, inf, fin, binary64, of_bits}
use Rattle.std.specs.Float.{float_is_finite}
use Rattle.cross_shapes.specs.Shapes.{finite, zero_float}

pub zero_is : of_bits binary64 0 ≡ zero_float
unfolding of_bits
zero_is = refl

pub finite_is : (x : Float) → float_is_finite x ≡ finite x
unfolding float_is_finite finite
finite_is nan = refl
finite_is (inf s) = refl
finite_is (fin s m e) = refl
