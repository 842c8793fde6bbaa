-- `cross_line::meet_at` meets its contract: the shape that is read is met.
use borrow.Author.Rules.{rules}
use Rattle.cross_line.proofs.LineLaws.{shape_met}
use Rattle.cross_line.proofs.meet_at.Goals as goal

pub returns : goal.returns
returns c = search (shape_met, rules)
