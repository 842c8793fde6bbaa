use Rattle.sheet_names.proofs.NameSteps.{key_on, key_all}
use Rattle.sheet_names.proofs.key.Goals as goal

pub loop-x-preserved : goal.loop-x-preserved
loop-x-preserved c = search key_on

pub returns : goal.returns
returns c = search key_all
