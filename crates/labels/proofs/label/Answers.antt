-- `labels::label` meets its contract: each range of kinds is one case of the rule.
use Rattle.labels.proofs.Ranges.{arm_leaf, arm_E, arm_left, arm_right, arm_S, arm_rest}
use Rattle.labels.proofs.label.Goals as goal

pub returns-in-0 : goal.returns-in-0
returns-in-0 c = search arm_leaf

pub returns-in-13 : goal.returns-in-13
returns-in-13 c = search arm_S

pub returns-in-1-to-4 : goal.returns-in-1-to-4
returns-in-1-to-4 c = search arm_E

pub returns-in-5-to-8 : goal.returns-in-5-to-8
returns-in-5-to-8 c = search arm_left

pub returns-in-9-to-12 : goal.returns-in-9-to-12
returns-in-9-to-12 c = search arm_right

pub returns-in_default : goal.returns-in_default
returns-in_default c = search arm_rest
