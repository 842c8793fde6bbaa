-- A refusal's number is never 0: by this a caller tells what is given from what is refused.
use Rattle.std.specs.Prelude.{ℕ, ◌<◌, ◌≡◌}
use Rattle.outcome.specs.Outcome.{Outcome, refused, unfit}

pub record Numbered {A : Type 0} (o : Outcome A) : Type 0 where
  pub above_0 : (number place : ℕ) → o ≡ refused number place → 0 < number
  pub unfit_above_0 : (number place : ℕ) → o ≡ unfit number place → 0 < number
