-- `edit_places::operates` meets its contract: each range of kinds by itself.
use borrow.Author.Rules.{rules}
use Rattle.edit_places.proofs.Exits.{works-leaf, works_in, works_out}
use Rattle.edit_places.proofs.operates.Goals as goal

pub returns-in-1-to-12 : goal.returns-in-1-to-12
returns-in-1-to-12 c = search (works_in, rules)

pub returns-in_default : goal.returns-in_default
returns-in_default c = search (works-leaf, works_out, rules)

pub returns-in_default-2 : goal.returns-in_default-2
returns-in_default-2 c = search (works-leaf, works_out, rules)
