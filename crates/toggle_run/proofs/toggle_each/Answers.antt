use borrow.Author.Rules.{rules}
use Rattle.toggle_run.proofs.Filling.{running-start, shape-below, count_room, root_room, running_more, running_end}
use Rattle.toggle_run.proofs.toggle_each.Goals as goal

pub loop-i-init : goal.loop-i-init
loop-i-init c = (running-start _ _ _ _ _, search rules)

pub toggle-requires : goal.toggle-requires
toggle-requires c = search (shape-below, rules)

pub bounds-counts-i : goal.bounds-counts-i
bounds-counts-i c = search count_room

pub bounds-roots-i : goal.bounds-roots-i
bounds-roots-i c = search root_room

pub loop-i-preserved : goal.loop-i-preserved
loop-i-preserved c = (search running_more, search rules)

pub returns : goal.returns
returns c = search running_end
