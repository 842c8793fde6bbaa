-- Many lines and one drawing: what the job for one line gives for each, one after another.
use Rattle.std.specs.Prelude.{ℕ, List, leb, length, Float}
use Rattle.outcome.specs.Outcome.{need}
use Rattle.lines.specs.Lines.{LineLists}
use Rattle.cross_shapes.specs.declared.Probe.{Probe}
use Rattle.cross_drawn.specs.Asking.{list_room}
use Rattle.cross_drawn.specs.Drawn.{Drawn, drawn_lists, drawn}
use Rattle.cross_drawn.specs.Judging.{lines_judged}
use Rattle.cross_drawn.specs.Lent.{probes_of}
use Rattle.cross_drawn.specs.Refusing.{OfLines, gives, of_none, ◌>>◌}

-- "16, place 256, for more than 256 shapes, also with no line; 14, place 0, for more than 4294967296 lines; then line by line 16; then 9."
unfoldable pub crossing_probes : List ℕ → List Float → List Probe → LineLists → OfLines Drawn
crossing_probes kinds numbers probes lent = do
  of_none (need (leb (length kinds) 256) 16 256)
  of_none (need (leb (length probes) 4294967296) 14 0)
  lines_judged 0 kinds numbers probes
  of_none (list_room (drawn_lists (drawn kinds numbers probes)) lent)
  gives (drawn kinds numbers probes)

abbrev pub crossing_many : List ℕ → List Float → List Float → LineLists → OfLines Drawn
crossing_many kinds numbers lines lent = crossing_probes kinds numbers (probes_of lines) lent
