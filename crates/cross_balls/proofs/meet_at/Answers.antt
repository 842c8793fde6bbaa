-- `cross_balls::meet_at` meets its contract: a ball that is only begun is a fault.
use Rattle.cross_balls.proofs.LentLaws.{at_begun, at-whole}
use borrow.Author.Rules.{rules}
use Rattle.cross_balls.proofs.meet_at.Goals as goal

pub returns-then-numbers-i : goal.returns-then-numbers-i
returns-then-numbers-i c = search (at_begun, rules)

pub returns : goal.returns
returns c = search (at-whole, rules)
