use Rattle.sheet_names.proofs.NameSteps.{has_on, has_all}
use Rattle.sheet_names.proofs.key_among.Goals as goal

pub loop-k-preserved : goal.loop-k-preserved
loop-k-preserved c = search has_on

pub returns : goal.returns
returns c = search has_all
