-- What classifying asks of the lines of a drawing.
use Rattle.std.specs.Prelude.{[], ◌∷◌, ℕ}
use Rattle.cross_cuts.specs.Cuts.{start_row, line_crossings}
use Rattle.cross_cuts.specs.Fit.{Fit}
use Rattle.cross_drawn.specs.Drawn.{Drawn}

-- Each line is fit to be classified: the crossing makers give no other.
abbrev pub AllFit : ℕ → Drawn → Type 0
AllFit shapes [] = Unit {0}
AllFit shapes (line ∷ lines) = Fit shapes (start_row line) (line_crossings line) × AllFit shapes lines
