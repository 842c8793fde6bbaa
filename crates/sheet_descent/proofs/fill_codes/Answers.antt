-- `sheet_descent::fill_codes` meets its contract.
use Rattle.sheet_descent.proofs.Judged.{in_postfix_lem, good_second, in_prefix}
use Rattle.sheet_descent.proofs.fill_codes.Goals as goal

pub returns-then-edition-eq1 : goal.returns-then-edition-eq1
returns-then-edition-eq1 c = search in_postfix_lem

pub fill_first-requires : goal.fill_first-requires
fill_first-requires c = search good_second

pub returns-else-edition-eq1 : goal.returns-else-edition-eq1
returns-else-edition-eq1 c = search in_prefix
