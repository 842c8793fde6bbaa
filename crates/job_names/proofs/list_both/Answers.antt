-- `job_names::list_both` meets its contract: the customer's names are listed in what is left of the lists.
use Rattle.job_names.proofs.Listing.{both_listed}
use borrow.Author.Rules.{rules}
use Rattle.job_names.proofs.list_both.Goals as goal

pub returns : goal.returns
returns c = search (both_listed, rules)
