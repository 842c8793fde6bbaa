-- The promise of classifying: the paper's numbers and values for what is answered, and the lent lists after the call.
use Rattle.std.specs.Prelude.{ℕ, ◌≡◌, Result, List, length}
use Rattle.outcome.specs.Outcome.{Outcome, part}
use Rattle.outcome.specs.Refusing.{answered}
use Rattle.outcome.specs.declared.Refusal.{Refusal}
use Rattle.lines.specs.Lines.{AnswerLists, Wall}
use Rattle.lines.specs.Given.{WallLists}

-- Of the job's outcome and the lists as lent: the answer r, how many walls there are, and the lists line, start, end, start shape, end shape after the call.
pub record Classified (o : Outcome (List Wall)) (lent : AnswerLists) (r : Result ℕ Refusal) (after : AnswerLists) : Type 0 where
  pub answer : answered r ≡ part length o
  pub lists : WallLists o lent after
