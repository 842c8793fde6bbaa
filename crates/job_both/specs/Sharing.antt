-- Two foundries on one sheet: what the call gives to each, for the sheets of the call, the order and the two toggle lists.
use Rattle.std.specs.Prelude.{ℕ, List, length}
use Rattle.outcome.specs.Outcome.{Outcome, given, need, ◌>>=◌, ◌>>◌}
use Rattle.sheet.specs.Sheet.{Sheets, Sheet}
use Rattle.accepting.specs.Accepting.{accepted}
use Rattle.toggles.specs.Toggles.{Answers}
use Rattle.job_run.specs.Running.{toggling}
use Rattle.order_mixing.specs.Order.{mixes}

-- What goes to both: 1 to 8 and 17; then 13, an order with an entry that names neither, or whose turns differ from the lists' lengths, place 0.
unfoldable pub sharing : Sheets → List ℕ → List ℕ → List ℕ → Outcome Sheet
sharing c order first second = do
  sheet ← accepted c
  need (mixes order (length first) (length second)) 13 0
  given sheet

-- What goes to one foundry alone, of its own list and its answer lists: 10, then 9; and exactly what its list alone would get.
unfoldable pub serving : Outcome Sheet → List ℕ → ℕ → ℕ → ℕ → Outcome Answers
serving shared toggles roots counts labels = do
  sheet ← shared
  toggling sheet.formula (length sheet.names) toggles roots counts labels
