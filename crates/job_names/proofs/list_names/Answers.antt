-- `job_names::list_names` meets its contract, by the flag.
use Rattle.job_name.proofs.Placing.{whole, less, held-beside, held-alone}
use Rattle.job_names.proofs.Listing.{beside-listed, alone-listed, room_both, room-own}
use borrow.Author.Rules.{rules}
use Rattle.job_names.proofs.list_names.Goals as goal

pub count-m-requires : goal.count-m-requires
count-m-requires c = search whole

pub overflow_sub-names : goal.overflow_sub-names
overflow_sub-names c = search less

pub list_both-requires : goal.list_both-requires
list_both-requires c = (search held-beside, search (room_both, less, rules))

pub returns-then-fitted : goal.returns-then-fitted
returns-then-fitted c = search (beside-listed, less, rules)

pub list_both-requires-2 : goal.list_both-requires-2
list_both-requires-2 c = (search held-alone, search (room-own, rules))

pub returns : goal.returns
returns c = search (alone-listed, rules)
