-- `job_move::give_moved` meets its contract.
use Rattle.job_move.proofs.Giving.{codes-enough, tag_there, tag_room, codes_fit, all_moved}
use borrow.Author.Rules.{rules}
use Rattle.job_move.proofs.give_moved.Goals as goal

pub overflow_sub-first : goal.overflow_sub-first
overflow_sub-first c = search codes-enough

pub overflow_sub-moved-3 : goal.overflow_sub-moved-3
overflow_sub-moved-3 c = search tag_there

pub bounds-moved-first : goal.bounds-moved-first
bounds-moved-first c = search (tag_room, rules)

pub put_codes-requires : goal.put_codes-requires
put_codes-requires c = search (codes_fit, rules)

pub returns : goal.returns
returns c = search (all_moved, rules)
