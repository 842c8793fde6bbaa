-- `cross_hits::left` meets its contract: the lesser of what one axis says and of what the two others say together.
use Rattle.cross_hits.proofs.HitLaws.{leaves_level, leaves_slant}
use borrow.Author.Rules.{rules}
use Rattle.cross_hits.proofs.left.Goals as goal

pub returns-then-is_level : goal.returns-then-is_level
returns-then-is_level c = search (leaves_level, rules)

pub returns : goal.returns
returns c = search (leaves_slant, rules)
