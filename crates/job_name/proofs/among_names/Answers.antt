-- `job_name::among_names` meets its contract, by the sheet that holds the name.
use Rattle.job_name.proofs.Walking.{fitting_held, fitting_next, own_held, own-next, fitting_placed, own-placed}
use borrow.Author.Rules.{rules}
use Rattle.job_name.proofs.among_names.Goals as goal

pub after-at-requires : goal.after-at-requires
after-at-requires c = search (fitting_held, rules)

pub after-past-requires : goal.after-past-requires
after-past-requires c = search (fitting_next, rules)

pub returns-then-shape-fitted : goal.returns-then-shape-fitted
returns-then-shape-fitted c = search (fitting_placed, rules)

pub after-at-requires-2 : goal.after-at-requires-2
after-at-requires-2 c = search (own_held, rules)

pub after-past-requires-2 : goal.after-past-requires-2
after-past-requires-2 c = search (own-next, rules)

pub returns : goal.returns
returns c = search (own-placed, rules)
