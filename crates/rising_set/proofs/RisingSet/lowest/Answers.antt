-- `rising_set::RisingSet::lowest` meets its contract.
use Rattle.rising_set.proofs.Sets.{lowest_is}
use Rattle.rising_set.proofs.RisingSet.lowest.Goals as goal

pub returns : goal.returns
returns c = search lowest_is
