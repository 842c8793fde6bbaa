-- The two lines of a computed call, cut between them.
use mathlib.Core.Path.{◌≡◌, refl}
use mathlib.Core.List.{[], ◌∷◌}
use lib.IntN.{pos}
use lib.Ieee.{of_int, sub, div, mul, lt, eq}
use lib.ListN.{take, drop}
use Rattle.outcome.specs.Outcome.{given, part}
use Rattle.lines.specs.Lines.{LineLists, line_lists}
use Rattle.line_cuts.specs.Cuts.{join_lists}
use Rattle.cross_order.specs.Order.{enter, ordered_by}
use Rattle.cross_positions.specs.Positions.{nearest_whole}
use Rattle.cross_cuts.specs.Cuts.{crossings_from, faultless}
use Rattle.cross_shapes.specs.Shapes.{finite, is_zero, lesser, greater, half_space_cut, axis_range, box_range, good_pair, box_cut}
use Rattle.cross_line.specs.Lent.{shapes_of}
use Rattle.cross_line.specs.Crossing.{good_probe}
use Rattle.cross_drawn.specs.Asking.{line_judged, list_room}
use Rattle.cross_many.specs.Cases.{number, two, lines, lent}
use Rattle.cross_many.specs.Crossing.{crossing_probes, crossing_many}
use Rattle.cross_drawn.specs.Judging.{lines_judged}
use Rattle.cross_drawn.specs.Drawn.{rows_of, lines_from, positions_in, shapes_in, drawn_lists}
use Rattle.cross_drawn.specs.Lent.{probes_from}
use Rattle.cross_drawn.specs.Refusing.{outcome_of}
use Rattle.cross_parts.specs.Parts.{probe_parts}

abbrev first : LineLists
first = line_lists (0 ∷ 1 ∷ []) (0 ∷ 0 ∷ 0 ∷ []) (pos 5000 ∷ pos 6000 ∷ pos 6000 ∷ []) (0 ∷ 0 ∷ 1 ∷ [])

abbrev second : LineLists
second = line_lists (0 ∷ 1 ∷ []) (0 ∷ []) (pos 6000 ∷ []) (1 ∷ [])

cut_there : probe_parts (1 ∷ []) lines ≡ take 6 lines ∷ drop 6 lines ∷ []
cut_there = refl

first-drawn : part drawn_lists (outcome_of (crossing_many (255 ∷ 0 ∷ []) two (take 6 lines) lent)) ≡ given first
unfolding number two lines lent crossing_probes probes_from lines_judged line_judged list_room rows_of lines_from positions_in shapes_in shapes_of good_probe faultless crossings_from ordered_by enter box_cut half_space_cut good_pair box_range axis_range nearest_whole finite is_zero lesser greater of_int sub div mul lt eq
first-drawn = refl

second-drawn : part drawn_lists (outcome_of (crossing_many (255 ∷ 0 ∷ []) two (drop 6 lines) lent)) ≡ given second
unfolding number two lines lent crossing_probes probes_from lines_judged line_judged list_room rows_of lines_from positions_in shapes_in shapes_of good_probe faultless crossings_from ordered_by enter box_cut half_space_cut good_pair box_range axis_range nearest_whole finite is_zero lesser greater of_int sub div mul lt eq
second-drawn = refl

both_drawn : part drawn_lists (outcome_of (crossing_many (255 ∷ 0 ∷ []) two lines lent)) ≡ given (join_lists (1 ∷ []) (first ∷ second ∷ []))
unfolding number two lines lent crossing_probes probes_from lines_judged line_judged list_room rows_of lines_from positions_in shapes_in shapes_of good_probe faultless crossings_from ordered_by enter box_cut half_space_cut good_pair box_range axis_range nearest_whole finite is_zero lesser greater of_int sub div mul lt eq
both_drawn = refl
