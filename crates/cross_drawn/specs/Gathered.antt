-- What the code has of one line: it is judged, and what it has of its shapes is gathered.
use Rattle.std.specs.Prelude.{ℕ, ◌≡◌, List, length, Float, Result, Ok, Err}
use Rattle.outcome.specs.Outcome.{given, refused}
use Rattle.cross_cuts.specs.Keys.{Complete}
use Rattle.cross_shapes.specs.declared.Probe.{Probe}
use Rattle.cross_line.specs.Crossing.{shape_cuts}
use Rattle.cross_drawn.specs.Asking.{line_judged}

-- A line is not at fault, and what it has of its shapes is gathered.
pub record Sound (kinds : List ℕ) (numbers : List Float) (probe : Probe) (bytes keys : List ℕ) (m : ℕ) : Type 0 where
  pub not_at_fault : line_judged kinds numbers probe ≡ given tt
  pub gathered : Complete 256 16 (shape_cuts probe kinds numbers) bytes keys (length kinds) m

-- By cases: the line or its first shape at fault; or all is gathered.
abbrev pub LineEnds : List ℕ → List Float → Probe → List ℕ → List ℕ → Result ℕ ℕ → Type 0
LineEnds kinds numbers probe bytes keys (Err place) = line_judged kinds numbers probe ≡ refused 16 place
LineEnds kinds numbers probe bytes keys (Ok m) = Sound kinds numbers probe bytes keys m
