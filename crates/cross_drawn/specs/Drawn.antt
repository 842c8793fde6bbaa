-- The lines of a drawing one after another, as they are handed to classifying: the lines are numbered 0, 1, .. as their rows stand.
use Rattle.std.specs.Prelude.{ℕ, suc, List, [], ◌∷◌, ◌++◌, map, ℤ, Float}
use Rattle.lines.specs.Lines.{LineLists, line_lists}
use Rattle.cross_cuts.specs.Cuts.{Cut, start_row, position_of, shape_of, line_crossings}
use Rattle.cross_shapes.specs.declared.Probe.{Probe}
use Rattle.cross_line.specs.Crossing.{shape_cuts}

-- What the lines have of each shape, as a crossing maker gives it for each.
abbrev pub Drawn : Type 0
Drawn = List (List Cut)

unfoldable pub rows_of : Drawn → List ℕ
rows_of [] = []
rows_of (line ∷ lines) = start_row line ++ rows_of lines

-- The line's number beside each of its crossings.
unfoldable pub lines_from : ℕ → Drawn → List ℕ
lines_from n [] = []
lines_from n (line ∷ lines) = map (λ x. n) (line_crossings line) ++ lines_from (suc n) lines

unfoldable pub positions_in : Drawn → List ℤ
positions_in [] = []
positions_in (line ∷ lines) = map position_of (line_crossings line) ++ positions_in lines

unfoldable pub shapes_in : Drawn → List ℕ
shapes_in [] = []
shapes_in (line ∷ lines) = map shape_of (line_crossings line) ++ shapes_in lines

abbrev pub drawn_lists : Drawn → LineLists
drawn_lists lines = line_lists (rows_of lines) (lines_from 0 lines) (positions_in lines) (shapes_in lines)

-- What each line has of each shape.
abbrev pub drawn : List ℕ → List Float → List Probe → Drawn
drawn kinds numbers probes = map (λ probe. shape_cuts probe kinds numbers) probes
