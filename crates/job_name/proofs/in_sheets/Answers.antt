-- `job_name::in_sheets` meets its contract, by the flag.
use Rattle.job_name.proofs.Placing.{whole, less, held-beside, few_beside, placed-beside, held-alone, few_alone, placed-alone}
use Rattle.job_name.proofs.in_sheets.Goals as goal

pub count-m-requires : goal.count-m-requires
count-m-requires c = search whole

pub overflow_sub-names : goal.overflow_sub-names
overflow_sub-names c = search less

pub among_names-requires : goal.among_names-requires
among_names-requires c = (search held-beside, search few_beside)

pub returns-then-fitted : goal.returns-then-fitted
returns-then-fitted c = search placed-beside

pub among_names-requires-2 : goal.among_names-requires-2
among_names-requires-2 c = (search held-alone, search few_alone)

pub returns : goal.returns
returns c = search placed-alone
