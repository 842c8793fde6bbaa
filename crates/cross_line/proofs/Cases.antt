-- Lines computed from the definitions.
use mathlib.Core.Path.{◌≡◌, refl}
use mathlib.Core.List.{List, [], ◌∷◌, map}
use lib.IntN.{ℤ, pos, negsuc}
use lib.Ieee.{Float, binary64, of_int, sub, div, mul, lt, eq}
use Rattle.outcome.specs.Outcome.{given, refused, part}
use Rattle.cross_order.specs.Order.{enter, ordered_by}
use Rattle.cross_positions.specs.Positions.{nearest_whole}
use Rattle.cross_cuts.specs.Cuts.{start_row, crossed_at as at, crossings_from, line_crossings, faultless, answered}
use Rattle.cross_shapes.specs.Shapes.{finite, is_zero, lesser, greater, half_space_cut, axis_range, box_range, good_pair, box_cut}
use Rattle.cross_shapes.specs.declared.Probe.{Probe}
use Rattle.cross_line.specs.Lent.{shapes_of}
use Rattle.cross_line.specs.Crossing.{good_probe, crossing_shapes}

unfoldable number : ℤ → Float
number z = of_int binary64 z

-- along x, through y = 1 and z = 1
unfoldable along : Probe
along = record { ox = number (pos 0); oy = number (pos 1); oz = number (pos 1); dx = number (pos 1); dy = number (pos 0); dz = number (pos 0) }

-- a box from 5 to 6, a half-space on x below 6, a box from -1 to 6
unfoldable Three : List Float
Three = map number (pos 5 ∷ pos 0 ∷ pos 0 ∷ pos 6 ∷ pos 2 ∷ pos 2 ∷ pos 6 ∷ pos 0 ∷ pos 0 ∷ pos 0 ∷ pos 0 ∷ pos 0 ∷ negsuc 0 ∷ pos 0 ∷ pos 0 ∷ pos 6 ∷ pos 2 ∷ pos 2 ∷ [])

starts-given : part start_row (crossing_shapes along (255 ∷ 0 ∷ 255 ∷ []) Three 3 5 5) ≡ given (0 ∷ 1 ∷ 0 ∷ [])
unfolding number along Three crossing_shapes shapes_of good_probe answered faultless crossings_from ordered_by enter box_cut half_space_cut good_pair box_range axis_range nearest_whole finite is_zero lesser greater of_int sub div mul lt eq
starts-given = refl

crossings-given : part line_crossings (crossing_shapes along (255 ∷ 0 ∷ 255 ∷ []) Three 3 5 5)
    ≡ given (at (negsuc 999) 2 ∷ at (pos 5000) 0 ∷ at (pos 6000) 0 ∷ at (pos 6000) 1 ∷ at (pos 6000) 2 ∷ [])
unfolding number along Three crossing_shapes shapes_of good_probe answered faultless crossings_from ordered_by enter box_cut half_space_cut good_pair box_range axis_range nearest_whole finite is_zero lesser greater of_int sub div mul lt eq
crossings-given = refl

-- room for four positions
short : crossing_shapes along (255 ∷ 0 ∷ 255 ∷ []) Three 3 4 4 ≡ refused 9 5
unfolding number along Three crossing_shapes shapes_of good_probe answered faultless crossings_from ordered_by enter box_cut half_space_cut good_pair box_range axis_range nearest_whole finite is_zero lesser greater of_int sub div mul lt eq
short = refl

-- an axis of 3
fourth_axis : crossing_shapes along (255 ∷ 3 ∷ []) Three 2 4 4 ≡ refused 16 1
unfolding number along Three crossing_shapes shapes_of good_probe answered faultless box_cut half_space_cut good_pair box_range axis_range nearest_whole finite is_zero lesser greater of_int sub div mul lt eq
fourth_axis = refl

-- a direction all zero
still : crossing_shapes (record { ox = number (pos 0); oy = number (pos 0); oz = number (pos 0); dx = number (pos 0); dy = number (pos 0); dz = number (pos 0) }) (3 ∷ []) [] 0 0 0 ≡ refused 16 65535
unfolding number crossing_shapes good_probe finite is_zero of_int eq
still = refl
