-- `edit_mix::act` meets its contract: the edit whose moment has come acts, or else the next toggle.
use Rattle.edit_mix.proofs.MixLaws.{edits_few, act_readable, act_edits, act_operates, edit-room, act_edited, act_toggles, root_room, count_room, act_toggled}
use Rattle.edit_mix.proofs.act.Goals as goal

pub overflow_sub-i : goal.overflow_sub-i
overflow_sub-i c = search edits_few

pub next_edit-requires : goal.next_edit-requires
next_edit-requires c = search act_readable

pub edit-requires : goal.edit-requires
edit-requires c = (search act_edits, search act_operates)

pub bounds-edit_counts-k : goal.bounds-edit_counts-k
bounds-edit_counts-k c = search edit-room

pub toggle_one-t-requires : goal.toggle_one-t-requires
toggle_one-t-requires c = search act_toggles

pub bounds-counts-i : goal.bounds-counts-i
bounds-counts-i c = search count_room

pub bounds-roots-i : goal.bounds-roots-i
bounds-roots-i c = search root_room

pub returns-in-Some-clause-acted : goal.returns-in-Some-clause-acted
returns-in-Some-clause-acted c = search act_edited

pub returns-in-None-clause-acted : goal.returns-in-None-clause-acted
returns-in-None-clause-acted c = search act_toggled
