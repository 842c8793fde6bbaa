-- `edit_labels::edit` meets its contract: a label that came out as it was ends it, and above one that changed the walk goes on.
use Rattle.edit_labels.proofs.ArrayLaws.{node_room, climbs, done_stop, done_on}
use borrow.Author.Rules.{rules}
use Rattle.edit_labels.proofs.edit.Goals as goal

pub offset_bounds-records-e : goal.offset_bounds-records-e
offset_bounds-records-e c = search (node_room, rules)

pub bounds-records-e : goal.bounds-records-e
bounds-records-e c = search (node_room, rules)

pub offset_bounds-records-e-2 : goal.offset_bounds-records-e-2
offset_bounds-records-e-2 c = search (node_room, rules)

pub bounds-records-e-2 : goal.bounds-records-e-2
bounds-records-e-2 c = search (node_room, rules)

pub work-v-requires : goal.work-v-requires
work-v-requires c = search (node_room, rules)

pub bounds-labels-e : goal.bounds-labels-e
bounds-labels-e c = search (node_room, rules)

pub returns-then-v-labels-clause-done : goal.returns-then-v-labels-clause-done
returns-then-v-labels-clause-done c = search done_stop

pub bounds-labels-e-2 : goal.bounds-labels-e-2
bounds-labels-e-2 c = search (node_room, rules)

pub walk-requires : goal.walk-requires
walk-requires c = search climbs

pub returns-clause-done : goal.returns-clause-done
returns-clause-done c = search (done_on, c.walk.ensures.by_index)
