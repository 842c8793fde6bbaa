-- One line's answer, from what the line has of each shape: document 02, 'Crossings from the drawing's own numbers'.
use Rattle.std.specs.Prelude.{ℕ, ◌+◌, Bool, true, false, not, cond, ◌&&◌, ◌||◌, List, [], ◌∷◌, ◌++◌, map, ltb, ℤ, length}
use Rattle.std.specs.Int.Signed.{lt_z}
use Rattle.outcome.specs.Outcome.{Outcome, given, need, room, ◌>>◌}
use Rattle.cross_order.specs.Order.{ordered_by}

-- What a line has of one shape: the shape is at fault; or whether it starts inside, and the positions where it is crossed.
pub data Cut : Type 0 where
  fault : Cut
  cut : Bool → List ℤ → Cut

abbrev pub sound : Cut → Bool
sound fault = false
sound (cut inside positions) = true

abbrev pub positions_of : Cut → List ℤ
positions_of fault = []
positions_of (cut inside positions) = positions

-- A start row has "one byte a shape, 1 for inside".
abbrev pub start_of : Cut → ℕ
start_of fault = 0
start_of (cut inside positions) = cond inside 1 0

abbrev pub start_row : List Cut → List ℕ
start_row cuts = map start_of cuts

-- A crossing of the line: its position and its shape's number.
pub data LineCrossing : Type 0 where
  crossed_at : ℤ → ℕ → LineCrossing

abbrev pub position_of : LineCrossing → ℤ
position_of (crossed_at position shape) = position

abbrev pub shape_of : LineCrossing → ℕ
shape_of (crossed_at position shape) = shape

-- The crossings of the shapes from number i on.
unfoldable pub crossings_from : ℕ → List Cut → List LineCrossing
crossings_from i [] = []
crossings_from i (c ∷ cs) = map (λ p. crossed_at p i) (positions_of c) ++ crossings_from (i + 1) cs

-- "By rising position, then rising shape number."
abbrev pub before : LineCrossing → LineCrossing → Bool
before (crossed_at p i) (crossed_at q j) = lt_z p q || (not (lt_z q p) && ltb i j)

abbrev pub line_crossings : List Cut → List LineCrossing
line_crossings cuts = ordered_by before (crossings_from 0 cuts)

-- The first shape at fault, from number i on, is refused with this number; the place is the shape's number.
unfoldable pub faultless : ℕ → ℕ → List Cut → Outcome (Unit {0})
faultless number i [] = given tt
faultless number i (c ∷ cs) = do
  need (sound c) number i
  faultless number (i + 1) cs

-- "Then 9 for start row, positions and shapes in turn, by the entries given."
abbrev pub line_room : List Cut → ℕ → ℕ → ℕ → Outcome (Unit {0})
line_room cuts starts positions shapes = do
  room (length (start_row cuts)) starts
  room (length (line_crossings cuts)) positions
  room (length (line_crossings cuts)) shapes

-- What the shapes of one line give, with the lengths of the lists lent for start row, positions and shapes.
unfoldable pub answered : ℕ → List Cut → ℕ → ℕ → ℕ → Outcome (List Cut)
answered number cuts starts positions shapes = do
  faultless number 0 cuts
  line_room cuts starts positions shapes
  given cuts
