use borrow.Author.Rules.{rules}
use Rattle.tree_height.proofs.PathLaws.{paths_start, paths_more}
use Rattle.tree_height.proofs.height.Goals as goal

pub loop-i-init : goal.loop-i-init
loop-i-init c = paths_start

pub loop-i-preserved : goal.loop-i-preserved
loop-i-preserved c = paths_more c.loop-i.invariant (search rules) c.path-last.ensures.0 c.path-last.ensures.1
