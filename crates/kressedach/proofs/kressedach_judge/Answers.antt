-- `kressedach::kressedach_judge` meets its contract: the opinion is reported as the definition reports it.
use Rattle.kressedach.proofs.ReportLaws.{judge_reported}
use Rattle.kressedach.proofs.kressedach_judge.Goals as goal

pub returns : goal.returns
returns c = search judge_reported
