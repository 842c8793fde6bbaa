-- `kressedach::kressedach_cross_many` meets its contract: the answer is reported as the definition reports it.
use Rattle.kressedach.proofs.ReportLaws.{many_reported}
use borrow.Author.Rules.{rules}
use Rattle.kressedach.proofs.kressedach_cross_many.Goals as goal

pub returns : goal.returns
returns c = search (many_reported, rules)
