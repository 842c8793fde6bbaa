-- `edit_places::meet` meets its contract.
use Rattle.edit_places.proofs.Exits.{meet-leaf, meet-operation}
use borrow.Author.Rules.{rules}
use Rattle.edit_places.proofs.meet.Goals as goal

pub returns-then-c-lt-FIRST_OPERATION-clause-j_after : goal.returns-then-c-lt-FIRST_OPERATION-clause-j_after
returns-then-c-lt-FIRST_OPERATION-clause-j_after c = search (meet-leaf, rules)

pub returns-else-c-lt-FIRST_OPERATION-clause-j_after : goal.returns-else-c-lt-FIRST_OPERATION-clause-j_after
returns-else-c-lt-FIRST_OPERATION-clause-j_after c = search (meet-operation, rules)
