-- The promise of the move: the paper's numbers and values for each case of the answer, and the lent list after the call.
use Rattle.std.specs.Prelude.{Result, ℕ, ◌≡◌, List, length}
use Rattle.outcome.specs.Outcome.{Outcome, part}
use Rattle.outcome.specs.Refusing.{answered}
use Rattle.outcome.specs.declared.Refusal.{Refusal}
use Rattle.outcome.specs.Lent.{after_call}

-- Of the job's outcome and the list as lent: the answer r, how many bytes are given, and the list after the call.
pub record Moved (o : Outcome (List ℕ)) (bytes : List ℕ) (r : Result ℕ Refusal) (bytes' : List ℕ) : Type 0 where
  pub answer : answered r ≡ part length o
  pub list : bytes' ≡ after_call o bytes
