-- `job_name::part_of` meets its contract, by the answer.
use Rattle.job_name.proofs.Parts.{fitting_ordered, fitting_inside, fitting_part, own-ordered, own-inside, own-part}
use borrow.Author.Rules.{rules}
use Rattle.job_name.proofs.part_of.Goals as goal

pub slice_bounds-result-count : goal.slice_bounds-result-count
slice_bounds-result-count c = search (fitting_ordered, rules)

pub slice_bounds-result-start : goal.slice_bounds-result-start
slice_bounds-result-start c = search (fitting_ordered, rules)

pub slice_bounds-result-end : goal.slice_bounds-result-end
slice_bounds-result-end c = search (fitting_inside, rules)

pub slice_bounds-result-count-in-Ok-Own : goal.slice_bounds-result-count-in-Ok-Own
slice_bounds-result-count-in-Ok-Own c = search (own-ordered, rules)

pub slice_bounds-result-start-in-Ok-Own : goal.slice_bounds-result-start-in-Ok-Own
slice_bounds-result-start-in-Ok-Own c = search (own-ordered, rules)

pub slice_bounds-result-end-in-Ok-Own : goal.slice_bounds-result-end-in-Ok-Own
slice_bounds-result-end-in-Ok-Own c = search (own-inside, rules)

pub returns-in-Ok-Fitting : goal.returns-in-Ok-Fitting
returns-in-Ok-Fitting c = search (fitting_part, rules)

pub returns-in-Ok-Own : goal.returns-in-Ok-Own
returns-in-Ok-Own c = search (own-part, rules)
