-- `kressedach::kressedach_run_edited` meets its contract.
use borrow.Author.Rules.{rules}
use Rattle.kressedach.proofs.ReportLaws.{edit_reported}
use Rattle.kressedach.proofs.kressedach_run_edited.Goals as goal

pub returns : goal.returns
returns c = search (edit_reported, rules)
