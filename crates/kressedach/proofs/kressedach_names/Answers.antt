-- `kressedach::kressedach_names` meets its contract: each case of the answer is reported as the definition reports it.
use borrow.Author.Rules.{rules}
use Rattle.kressedach.proofs.ReportLaws.{names_reported, names-refused, names-unfit}
use Rattle.kressedach.proofs.kressedach_names.Goals as goal

pub returns-in-Ok : goal.returns-in-Ok
returns-in-Ok c = search (names_reported, rules)

pub returns-in-Err-Refused : goal.returns-in-Err-Refused
returns-in-Err-Refused c = search (names-refused, rules)

pub returns-in-Err-Unfit : goal.returns-in-Err-Unfit
returns-in-Err-Unfit c = search (names-unfit, rules)
