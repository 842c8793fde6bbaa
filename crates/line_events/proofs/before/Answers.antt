-- What goes on past a column is before the next.
use Rattle.line_events.proofs.BitLaws.{metal_before}
use borrow.Author.Rules.{rules}
use Rattle.line_events.proofs.before.Goals as goal

pub returns : goal.returns
returns c = search (metal_before, rules)
