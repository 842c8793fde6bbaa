-- `line_strips::flip_crossing` meets its contract.
use Rattle.line_strips.proofs.Flips.{crossing_flipped}
use borrow.Author.Rules.{rules}
use Rattle.line_strips.proofs.flip_crossing.Goals as goal

pub returns : goal.returns
returns c = search (crossing_flipped, rules)
