-- `toggles::toggle_many` meets its contract.
use borrow.Author.Rules.{rules}
use Rattle.toggles.proofs.Flipping.{taken_out, toggle_several}
use Rattle.toggles.proofs.toggle_many.Goals as goal

pub flip_leaves-members-requires : goal.flip_leaves-members-requires
flip_leaves-members-requires c = (search rules, search rules, taken_out (search rules) (search rules) (search rules))

pub returns : goal.returns
returns c = search (toggle_several, c.settle.ensures)
