-- `kressedach::kressedach_classify` meets its contract: what is answered is reported as the definition reports it.
use Rattle.kressedach.proofs.ReportLaws.{classify_reported}
use Rattle.job_classify.specs.Classifying.{classifying}
use borrow.Author.Rules.{rules}
use Rattle.kressedach.proofs.kressedach_classify.Goals as goal

pub returns : goal.returns
unfolding classifying
returns c = search (classify_reported, rules)
