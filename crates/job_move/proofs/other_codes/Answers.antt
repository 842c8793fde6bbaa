-- `job_move::other_codes` meets its contract.
use Rattle.job_move.proofs.Putting.{other-first, other-postfix}
use Rattle.job_move.proofs.other_codes.Goals as goal

pub returns-then-edition-eq1 : goal.returns-then-edition-eq1
returns-then-edition-eq1 c = search other-first

pub returns : goal.returns
returns c = search other-postfix
