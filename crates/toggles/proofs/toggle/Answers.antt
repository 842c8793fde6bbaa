-- `toggles::toggle` meets its contract.
use borrow.Author.Rules.{rules}
use Rattle.toggles.proofs.Flipping.{leaf-inside, toggle-none, toggle-one}
use Rattle.toggles.proofs.toggle.Goals as goal

pub returns-then-tree-a : goal.returns-then-tree-a
returns-then-tree-a c = search toggle-none

pub walk-requires : goal.walk-requires
walk-requires c = search (leaf-inside, rules)

pub returns : goal.returns
returns c = search (toggle-one, c.walk.ensures.by_index)
