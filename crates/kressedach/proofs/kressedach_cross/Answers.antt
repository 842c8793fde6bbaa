-- `kressedach::kressedach_cross` meets its contract: the answer is reported as the definition reports it.
use Rattle.kressedach.proofs.ReportLaws.{cross_reported}
use borrow.Author.Rules.{rules}
use Rattle.kressedach.proofs.kressedach_cross.Goals as goal

pub returns : goal.returns
returns c = search (cross_reported, rules)
