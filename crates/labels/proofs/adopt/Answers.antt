-- `labels::adopt` meets its contract: each range of kinds has its children.
use Rattle.labels.proofs.Ranges.{adopt_none, adopt_E, adopt_R, adopt_rest}
use Rattle.labels.proofs.adopt.Goals.{in_default-via-then-kind-lt5, in_default-via-else-kind-lt5+else-kind-lt13}
use Rattle.labels.proofs.adopt.Goals as goal

pub returns-in-0 : goal.returns-in-0
returns-in-0 c = search adopt_none

pub returns-in-5-to-12 : goal.returns-in-5-to-12
returns-in-5-to-12 c = search adopt_R

pub returns-in_default : goal.returns-in_default
returns-in_default c =
    elim c.in_default.branch [
      | in_default-via-then-kind-lt5 w ↦ search adopt_E
      | in_default-via-else-kind-lt5+else-kind-lt13 w ↦ search adopt_rest
    ]
