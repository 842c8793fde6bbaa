-- Many lines judged, one after another.
use Rattle.std.specs.Prelude.{ℕ, suc, List, [], ◌∷◌, Float}
use Rattle.cross_shapes.specs.declared.Probe.{Probe}
use Rattle.cross_drawn.specs.Asking.{line_judged}
use Rattle.cross_drawn.specs.Refusing.{OfLines, gives, of_line, ◌>>◌}

-- Line by line, from number i on.
unfoldable pub lines_judged : ℕ → List ℕ → List Float → List Probe → OfLines (Unit {0})
lines_judged i kinds numbers [] = gives tt
lines_judged i kinds numbers (probe ∷ probes) = do
  of_line i (line_judged kinds numbers probe)
  lines_judged (suc i) kinds numbers probes
