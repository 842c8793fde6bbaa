-- A refusal that goes to both foundries.
use Rattle.std.specs.Prelude.{Err}
use Rattle.outcome.specs.declared.Refusal.{Refusal}
use Rattle.job_both.specs.declared.BothAnswer.{BothAnswer}

abbrev pub both_refused : Refusal → BothAnswer
both_refused why = record { first = Err why; second = Err why }
