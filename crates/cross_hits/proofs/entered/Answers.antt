-- `cross_hits::entered` meets its contract: the greater of what one axis says and of what the two others say together.
use Rattle.cross_hits.proofs.HitLaws.{enters_level, enters_slant}
use borrow.Author.Rules.{rules}
use Rattle.cross_hits.proofs.entered.Goals as goal

pub returns-then-is_level : goal.returns-then-is_level
returns-then-is_level c = search (enters_level, rules)

pub returns : goal.returns
returns c = search (enters_slant, rules)
