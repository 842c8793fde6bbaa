-- What a foundry's list alone gets: the outcome of a toggle run with it.
use Rattle.std.specs.Prelude.{ℕ, List, length}
use Rattle.outcome.specs.Outcome.{Outcome}
use Rattle.sheet.specs.Sheet.{Sheets}
use Rattle.toggles.specs.Toggles.{Answers}
use Rattle.job_run.specs.Running.{running}
use Rattle.job_both.specs.Shared.{Lists}

abbrev pub list_alone : Sheets → List ℕ → Lists → Outcome Answers
list_alone c toggles lent = running c toggles (length lent.roots) (length lent.counts) (length lent.labels)
