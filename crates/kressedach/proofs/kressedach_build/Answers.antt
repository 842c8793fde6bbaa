-- `kressedach::kressedach_build` meets its contract: each case of the answer is reported as the definition reports it.
use borrow.Author.Rules.{rules}
use Rattle.kressedach.proofs.ReportLaws.{build_reported, build_refused, build_unfit}
use Rattle.kressedach.proofs.kressedach_build.Goals as goal

pub returns-in-Ok : goal.returns-in-Ok
returns-in-Ok c = search (build_reported, rules)

pub returns-in-Err-Refused : goal.returns-in-Err-Refused
returns-in-Err-Refused c = search (build_refused, rules)

pub returns-in-Err-Unfit : goal.returns-in-Err-Unfit
returns-in-Err-Unfit c = search (build_unfit, rules)
