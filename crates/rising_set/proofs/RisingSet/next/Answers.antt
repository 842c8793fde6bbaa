-- `rising_set::RisingSet::next` meets its contract.
use Rattle.rising_set.proofs.Sets.{opened-here, opened-none, opened-next}
use Rattle.rising_set.proofs.RisingSet.next.Goals.{then-self-ne0-via-then-self-ne0, then-self-ne0-via-else-self-ne0+then-self-eq0}
use Rattle.rising_set.proofs.RisingSet.next.Goals as goal

pub returns-then-self-ne0 : goal.returns-then-self-ne0
returns-then-self-ne0 c =
    elim c.then-self-ne0.branch [
      | then-self-ne0-via-then-self-ne0 w ↦ search opened-here
      | then-self-ne0-via-else-self-ne0+then-self-eq0 w ↦ search opened-none
    ]

pub returns : goal.returns
returns c = search opened-next
