-- What a verdict on start rows and crossing lists says, in the documents' numbers.
use Rattle.std.specs.Prelude.{ℕ, ◌≡◌, Bool, true, List, Result, Ok, get_or}
use Rattle.outcome.specs.Outcome.{Outcome, part}
use Rattle.outcome.specs.Refusing.{judged as told}
use Rattle.outcome.specs.declared.Fault.{Fault}
use Rattle.lines.specs.Lines.{LineLists, judged}

abbrev pub verdict : Result Bool Fault → Outcome (Unit {0})
verdict r = part (λ air. tt) (told r)

-- Every line starts in air.
pub record InAir (rows : List ℕ) : Type 0 where
  pub zeros : (i : ℕ) → get_or rows i 0 ≡ 0

-- The judgement; where the lists are accepted, it says too whether every line starts in air.
pub record Judged (names : ℕ) (c : LineLists) (r : Result Bool Fault) : Type 0 where
  pub is : verdict r ≡ judged names c
  pub air : r ≡ Ok true → InAir c.rows
