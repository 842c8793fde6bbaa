-- `line_strips::open_word` meets its contract.
use Rattle.line_strips.proofs.Opens.{opens_last, opens_replayed, opens_carried}
use borrow.Author.Rules.{rules}
use Rattle.line_strips.proofs.open_word.Goals as goal

pub returns-then-is_on : goal.returns-then-is_on
returns-then-is_on c = search (opens_last, rules)

pub returns-then-j-gt0 : goal.returns-then-j-gt0
returns-then-j-gt0 c = search (opens_replayed, rules)

pub returns : goal.returns
returns c = search (opens_carried, rules)
