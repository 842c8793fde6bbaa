-- `toggles::put_node` meets its contract.
use Rattle.toggles.proofs.Flipping.{node_put, node-none}
use Rattle.toggles.proofs.put_node.Goals as goal

pub returns-then-p-nodes : goal.returns-then-p-nodes
returns-then-p-nodes c = search node_put

pub returns-else-p-nodes : goal.returns-else-p-nodes
returns-else-p-nodes c = search node-none
