-- The drawing, the lines and the lent lists of the calls that are computed.
use Rattle.std.specs.Prelude.{List, [], ◌∷◌, map, ℤ, pos, Float}
use Rattle.std.specs.Float.{binary64}
use Rattle.std.specs.Float.Ieee.{of_int}
use Rattle.lines.specs.Lines.{LineLists, line_lists}

unfoldable pub number : ℤ → Float
number z = of_int binary64 z

-- a box from 5 to 6, and a half-space on x below 6
unfoldable pub two : List Float
two = map number (pos 5 ∷ pos 0 ∷ pos 0 ∷ pos 6 ∷ pos 2 ∷ pos 2 ∷ pos 6 ∷ [])

-- both along x: the second beside the box
unfoldable pub lines : List Float
lines = map number (pos 0 ∷ pos 1 ∷ pos 1 ∷ pos 1 ∷ pos 0 ∷ pos 0 ∷ pos 0 ∷ pos 5 ∷ pos 5 ∷ pos 1 ∷ pos 0 ∷ pos 0 ∷ [])

unfoldable pub lent : LineLists
lent = line_lists (9 ∷ 9 ∷ 9 ∷ 9 ∷ []) (9 ∷ 9 ∷ 9 ∷ 9 ∷ []) (pos 9 ∷ pos 9 ∷ pos 9 ∷ pos 9 ∷ []) (9 ∷ 9 ∷ 9 ∷ 9 ∷ [])
