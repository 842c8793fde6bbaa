-- Calls with many lines computed from the definitions.
use mathlib.Core.Path.{◌≡◌, refl}
use mathlib.Core.List.{[], ◌∷◌, map}
use lib.IntN.{pos}
use lib.Ieee.{of_int, sub, div, mul, lt, eq}
use Rattle.outcome.specs.Outcome.{given, part}
use Rattle.lines.specs.Lines.{line_lists}
use Rattle.cross_order.specs.Order.{enter, ordered_by}
use Rattle.cross_positions.specs.Positions.{nearest_whole}
use Rattle.cross_cuts.specs.Cuts.{crossings_from, faultless}
use Rattle.cross_shapes.specs.Shapes.{finite, is_zero, lesser, greater, half_space_cut, axis_range, box_range, good_pair, box_cut}
use Rattle.cross_line.specs.Lent.{shapes_of}
use Rattle.cross_line.specs.Crossing.{good_probe}
use Rattle.cross_drawn.specs.Asking.{line_judged, list_room}
use Rattle.cross_drawn.specs.Drawn.{rows_of, lines_from, positions_in, shapes_in, drawn_lists}
use Rattle.cross_drawn.specs.Judging.{lines_judged}
use Rattle.cross_drawn.specs.Lent.{probes_from}
use Rattle.cross_drawn.specs.Refusing.{gives, refuses, outcome_of}
use Rattle.cross_many.specs.Cases.{number, two, lines, lent}
use Rattle.cross_many.specs.Crossing.{crossing_probes, crossing_many}

both_given : part drawn_lists (outcome_of (crossing_many (255 ∷ 0 ∷ []) two lines lent))
    ≡ given (line_lists (0 ∷ 1 ∷ 0 ∷ 1 ∷ []) (0 ∷ 0 ∷ 0 ∷ 1 ∷ []) (pos 5000 ∷ pos 6000 ∷ pos 6000 ∷ pos 6000 ∷ []) (0 ∷ 0 ∷ 1 ∷ 1 ∷ []))
unfolding number two lines lent crossing_probes probes_from lines_judged line_judged list_room rows_of lines_from positions_in shapes_in shapes_of good_probe faultless crossings_from ordered_by enter box_cut half_space_cut good_pair box_range axis_range nearest_whole finite is_zero lesser greater of_int sub div mul lt eq
both_given = refl

-- the second line lacks four numbers
begun : crossing_many (255 ∷ 0 ∷ []) two (map number (pos 0 ∷ pos 1 ∷ pos 1 ∷ pos 1 ∷ pos 0 ∷ pos 0 ∷ pos 0 ∷ pos 5 ∷ [])) lent ≡ refuses 16 65535 1
unfolding number two lent crossing_probes probes_from lines_judged line_judged shapes_of good_probe faultless box_cut half_space_cut good_pair box_range axis_range nearest_whole finite is_zero lesser greater of_int sub div mul lt eq
begun = refl

-- a wrong shape is refused at the first line
wrong-shape : crossing_many (255 ∷ 3 ∷ []) two lines lent ≡ refuses 16 1 0
unfolding number two lines lent crossing_probes probes_from lines_judged line_judged shapes_of good_probe faultless box_cut half_space_cut good_pair box_range axis_range nearest_whole finite is_zero lesser greater of_int sub div mul lt eq
wrong-shape = refl

-- and not looked at with no line
no_line : crossing_many (3 ∷ []) [] [] lent ≡ gives []
unfolding lent crossing_probes probes_from lines_judged list_room rows_of lines_from positions_in shapes_in
no_line = refl

-- with no shape a line is judged
no_shape : crossing_many [] [] (number (pos 0) ∷ []) lent ≡ refuses 16 65535 0
unfolding number lent crossing_probes probes_from lines_judged line_judged good_probe finite of_int
no_shape = refl

-- room for three bytes
short-rows : crossing_many (255 ∷ 0 ∷ []) two lines (line_lists (9 ∷ 9 ∷ 9 ∷ []) [] [] []) ≡ refuses 9 4 0
unfolding number two lines crossing_probes probes_from lines_judged line_judged list_room rows_of shapes_of good_probe faultless box_cut half_space_cut good_pair box_range axis_range nearest_whole finite is_zero lesser greater of_int sub div mul lt eq
short-rows = refl
