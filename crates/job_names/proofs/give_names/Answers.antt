-- `job_names::give_names` meets its promise: each list is judged, then all are filled.
use Rattle.job_names.proofs.Giving.{asked-lists, all-given}
use borrow.Author.Rules.{rules}
use Rattle.job_names.proofs.give_names.Goals as goal

pub returns-in_err-room : goal.returns-in_err-room
returns-in_err-room c = rw (asked-lists _ _ c.requires) (search rules)

pub returns-in_err-room-2 : goal.returns-in_err-room-2
returns-in_err-room-2 c = rw (asked-lists _ _ c.requires) (search rules)

pub returns-in_err-room-3 : goal.returns-in_err-room-3
returns-in_err-room-3 c = rw (asked-lists _ _ c.requires) (search rules)

pub returns : goal.returns
returns c = all-given _ _ c.requires _ _ _ (search rules) (search rules) (search rules) _ _ _ c.list_names.ensures
