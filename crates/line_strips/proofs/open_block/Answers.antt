-- `line_strips::open_block` meets its contract.
use Rattle.line_strips.proofs.Opens.{begins_on, begins_off}
use borrow.Author.Rules.{rules}
use Rattle.line_strips.proofs.open_block.Goals as goal

pub returns-then-goes_on : goal.returns-then-goes_on
returns-then-goes_on c = search (begins_on, rules)

pub returns : goal.returns
returns c = search (begins_off, rules)
