-- The numbers of a good line are finite.
use mathlib.Core.Path.{◌≡◌}
use mathlib.Core.Bool.{true, not, ◌&&◌, and-eq-true_iff}
use lib.Ieee.{Float}
use Rattle.cross_shapes.specs.Shapes.{finite, is_zero}
use Rattle.cross_shapes.specs.declared.Probe.{Probe}
use Rattle.cross_line.specs.Crossing.{all_three, good_probe}

module _ (a b c : Float) (all : all_three finite a b c ≡ true) where
  first_of : finite a ≡ true
  first_of = ((and-eq-true_iff (finite a) (finite b && finite c)).0 all).0

  rest : (finite b && finite c) ≡ true
  rest = ((and-eq-true_iff (finite a) (finite b && finite c)).0 all).1

  second_of : finite b ≡ true
  second_of = ((and-eq-true_iff (finite b) (finite c)).0 rest).0

  third_of : finite c ≡ true
  third_of = ((and-eq-true_iff (finite b) (finite c)).0 rest).1

module _ (probe : Probe) (good : good_probe probe ≡ true) where
  parts : (all_three finite probe.ox probe.oy probe.oz ≡ true) × ((all_three finite probe.dx probe.dy probe.dz && not (all_three is_zero probe.dx probe.dy probe.dz)) ≡ true)
  unfolding good_probe
  parts = (and-eq-true_iff (all_three finite probe.ox probe.oy probe.oz) (all_three finite probe.dx probe.dy probe.dz && not (all_three is_zero probe.dx probe.dy probe.dz))).0 good

  directions : all_three finite probe.dx probe.dy probe.dz ≡ true
  directions = ((and-eq-true_iff (all_three finite probe.dx probe.dy probe.dz) (not (all_three is_zero probe.dx probe.dy probe.dz))).0 parts.1).0

  pub origin_x : finite probe.ox ≡ true
  origin_x = first_of probe.ox probe.oy probe.oz parts.0

  pub origin_y : finite probe.oy ≡ true
  origin_y = second_of probe.ox probe.oy probe.oz parts.0

  pub origin_z : finite probe.oz ≡ true
  origin_z = third_of probe.ox probe.oy probe.oz parts.0

  pub direction_x : finite probe.dx ≡ true
  direction_x = first_of probe.dx probe.dy probe.dz directions

  pub direction_y : finite probe.dy ≡ true
  direction_y = second_of probe.dx probe.dy probe.dz directions

  pub direction_z : finite probe.dz ≡ true
  direction_z = third_of probe.dx probe.dy probe.dz directions
