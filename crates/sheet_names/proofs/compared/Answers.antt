-- `sheet_names::compared` meets its contract.
use Rattle.sheet_names.proofs.NameSteps.{whose_customer, whose_fitting, whose_nobody}
use Rattle.sheet_names.proofs.compared.Goals as goal

pub returns-then-among : goal.returns-then-among
returns-then-among c = search whose_customer

pub returns-then-among-2 : goal.returns-then-among-2
returns-then-among-2 c = search whose_fitting

pub returns-else-among-2 : goal.returns-else-among-2
returns-else-among-2 c = search whose_nobody
