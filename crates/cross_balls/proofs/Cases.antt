-- Lines computed from the definitions.
use mathlib.Core.Path.{◌≡◌, refl}
use mathlib.Core.List.{[], ◌∷◌}
use lib.IntN.{pos, negsuc}
use Rattle.outcome.specs.Outcome.{given, refused, part}
use Rattle.cross_order.specs.Order.{enter, ordered_by}
use Rattle.cross_root.specs.Root.{greatest}
use Rattle.cross_cuts.specs.Cuts.{crossed_at as at, crossings_from, line_crossings, faultless, answered}
use Rattle.cross_balls.specs.Balls.{in_ranges, half_chord, chord_cut, ball_cuts, crossing_balls}

-- offsets -3 and 0, radius 5, centre -10; and offsets 1 and 1, radius 5, centre -8, whose chord is cut down to 4
two : part line_crossings (crossing_balls (negsuc 2 ∷ pos 0 ∷ pos 5 ∷ negsuc 9 ∷ pos 1 ∷ pos 1 ∷ pos 5 ∷ negsuc 7 ∷ []) 2 4 4)
    ≡ given (at (negsuc 13) 0 ∷ at (negsuc 11) 1 ∷ at (negsuc 5) 0 ∷ at (negsuc 3) 1 ∷ [])
unfolding crossing_balls ball_cuts in_ranges chord_cut half_chord greatest answered faultless crossings_from ordered_by enter
two = refl

-- a half chord of 0, and a difference that is negative
missed : part line_crossings (crossing_balls (pos 3 ∷ pos 4 ∷ pos 5 ∷ pos 0 ∷ pos 3 ∷ pos 5 ∷ pos 5 ∷ pos 0 ∷ []) 2 0 0) ≡ given []
unfolding crossing_balls ball_cuts in_ranges chord_cut half_chord greatest answered faultless crossings_from ordered_by enter
missed = refl

-- a radius of 0, a ball begun, and room for one position
no_radius : crossing_balls (pos 0 ∷ pos 0 ∷ pos 0 ∷ pos 0 ∷ []) 1 2 2 ≡ refused 18 0
unfolding crossing_balls ball_cuts in_ranges answered faultless
no_radius = refl

begun : crossing_balls (pos 0 ∷ pos 0 ∷ pos 1 ∷ pos 0 ∷ pos 0 ∷ []) 2 4 4 ≡ refused 18 1
unfolding crossing_balls ball_cuts in_ranges chord_cut half_chord greatest answered faultless
begun = refl

short : crossing_balls (pos 0 ∷ pos 0 ∷ pos 1 ∷ pos 0 ∷ []) 1 1 2 ≡ refused 9 2
unfolding crossing_balls ball_cuts in_ranges chord_cut half_chord greatest answered faultless crossings_from ordered_by enter
short = refl
