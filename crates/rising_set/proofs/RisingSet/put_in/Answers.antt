-- `rising_set::RisingSet::put_in` meets its contract.
use Rattle.rising_set.proofs.Sets.{put_in_hand, put_later}
use Rattle.rising_set.proofs.RisingSet.put_in.Goals as goal

pub returns-then-w-self : goal.returns-then-w-self
returns-then-w-self c = search put_in_hand

pub returns : goal.returns
returns c = search put_later
