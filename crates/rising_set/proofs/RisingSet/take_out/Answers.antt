-- `rising_set::RisingSet::take_out` meets its contract.
use Rattle.rising_set.proofs.Sets.{taken}
use Rattle.rising_set.proofs.RisingSet.take_out.Goals as goal

pub returns : goal.returns
returns c = search taken
