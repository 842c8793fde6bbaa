-- `toggle_passes::rework_node` meets its contract.
use borrow.Author.Rules.{rules}
use Rattle.toggle_passes.proofs.Settles.{above_hand, still_rising, settled_put, settled_top, settled_same}
use Rattle.toggle_passes.proofs.rework_node.Goals as goal

pub returns-then-v-labels : goal.returns-then-v-labels
returns-then-v-labels c = search settled_same

pub put_in-requires : goal.put_in-requires
put_in-requires c = search (still_rising, above_hand, rules)

pub returns-then-p-tree : goal.returns-then-p-tree
returns-then-p-tree c = search settled_put

pub returns : goal.returns
returns c = search settled_top
