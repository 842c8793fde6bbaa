-- `kressedach::kressedach_run_both` meets its contract.
use borrow.Author.Rules.{rules}
use Rattle.kressedach.proofs.ReportLaws.{both_reported}
use Rattle.kressedach.proofs.kressedach_run_both.Goals as goal

pub returns : goal.returns
returns c = search (both_reported, rules)
