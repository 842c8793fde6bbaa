-- `kressedach::kressedach_run` meets its contract.
use borrow.Author.Rules.{rules}
use Rattle.kressedach.proofs.ReportLaws.{run_reported}
use Rattle.kressedach.proofs.kressedach_run.Goals as goal

pub returns : goal.returns
returns c = search (run_reported, rules)
