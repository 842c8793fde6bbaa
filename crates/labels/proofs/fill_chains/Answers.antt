use Rattle.labels.proofs.Fills.{chains_start, chains_more, chains_end, chains_bare}
use Rattle.labels.proofs.fill_chains.Goals as goal

pub loop-j-init : goal.loop-j-init
loop-j-init c = search chains_start

pub loop-j-preserved : goal.loop-j-preserved
loop-j-preserved c = search chains_more

pub returns : goal.returns
returns c = (search chains_end, search chains_bare)
