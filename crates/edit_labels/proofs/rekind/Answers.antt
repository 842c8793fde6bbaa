-- `edit_labels::rekind` meets its contract: each range of kinds by itself.
use Rattle.edit_labels.proofs.ArrayLaws.{kind_leaf, kind_E, kind_left, kind_right, kind_S, kind_C}
use Rattle.edit_labels.proofs.rekind.Goals as goal

pub returns-in-0 : goal.returns-in-0
returns-in-0 c = search kind_leaf

pub returns-in-13 : goal.returns-in-13
returns-in-13 c = search kind_S

pub returns-in-1-to-4 : goal.returns-in-1-to-4
returns-in-1-to-4 c = search kind_E

pub returns-in-5-to-8 : goal.returns-in-5-to-8
returns-in-5-to-8 c = search kind_left

pub returns-in-9-to-12 : goal.returns-in-9-to-12
returns-in-9-to-12 c = search kind_right

pub returns-in_default : goal.returns-in_default
returns-in_default c = search kind_C
