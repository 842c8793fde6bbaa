-- One line's crossings of balls, the line parallel to an axis, in whole micrometres: document 02, 'Balls'.
use Rattle.std.specs.Prelude.{ℕ, ◌+◌, ◌-◌, ◌*◌, Bool, false, cond, ◌&&◌, List, [], ◌∷◌, ltb, leb, eqb, ℤ, pos, negsuc, nat_abs, ◌+ℤ◌, ◌-ℤ◌, length}
use Rattle.std.specs.Int.Signed.{le_z}
use Rattle.outcome.specs.Outcome.{Outcome, need, ◌>>◌}
use Rattle.cross_root.specs.Root.{greatest}
use Rattle.cross_cuts.specs.Cuts.{Cut, fault, cut, answered}

abbrev pub within : ℤ → ℤ → ℤ → Bool
within low high z = le_z low z && le_z z high

-- "Two offsets of line from centre, each -1000000 to 1000000, radius 1 to 1000000, centre along the line -1000000000 to 1000000000."
unfoldable pub in_ranges : ℤ → ℤ → ℤ → ℤ → Bool
in_ranges u v radius centre =
    within (negsuc 999999) (pos 1000000) u
    && (within (negsuc 999999) (pos 1000000) v && (within (pos 1) (pos 1000000) radius && within (negsuc 999999999) (pos 1000000000) centre))

abbrev pub squared : ℤ → ℕ
squared z = nat_abs z * nat_abs z

-- "The half chord is the greatest whole number whose square is not above the radius squared less both offsets squared": it is not above
-- the radius.
unfoldable pub half_chord : ℤ → ℤ → ℤ → ℕ
half_chord u v radius = greatest (nat_abs radius) (squared radius - (squared u + squared v))

-- "If that difference is negative or the half chord is 0 there is no crossing, else two, at centre less and plus it." Every ball starts
-- outside.
abbrev pub sides : ℕ → ℤ → Cut
sides half centre = cond (eqb half 0) (cut false []) (cut false ((centre -ℤ pos half) ∷ (centre +ℤ pos half) ∷ []))

unfoldable pub chord_cut : ℤ → ℤ → ℤ → ℤ → Cut
chord_cut u v radius centre = cond (ltb (squared radius) (squared u + squared v)) (cut false []) (sides (half_chord u v radius) centre)

-- At fault: "a number out of these ranges".
abbrev pub ball_cut : ℤ → ℤ → ℤ → ℤ → Cut
ball_cut u v radius centre = cond (in_ranges u v radius centre) (chord_cut u v radius centre) fault

-- The balls as they are lent, four numbers a ball in one list. A ball begun counts, and a number that it lacks is out of range.
unfoldable pub ball_cuts : List ℤ → List Cut
ball_cuts [] = []
ball_cuts (u ∷ []) = fault ∷ []
ball_cuts (u ∷ v ∷ []) = fault ∷ []
ball_cuts (u ∷ v ∷ radius ∷ []) = fault ∷ []
ball_cuts (u ∷ v ∷ radius ∷ centre ∷ rest) = ball_cut u v radius centre ∷ ball_cuts rest

-- "18, more than 256 balls (place 256), then a number out of these ranges, place the first such ball's number; then 9."
unfoldable pub crossing_balls : List ℤ → ℕ → ℕ → ℕ → Outcome (List Cut)
crossing_balls numbers starts positions shapes = do
  need (leb (length (ball_cuts numbers)) 256) 18 256
  answered 18 (ball_cuts numbers) starts positions shapes
