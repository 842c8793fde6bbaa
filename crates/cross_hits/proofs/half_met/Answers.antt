-- `cross_hits::half_met` meets its contract: by the axis, where the face is finite.
use Rattle.cross_hits.proofs.HitLaws.{half_unsound, half_beyond, half_x, half_y, half_z}
use borrow.Author.Rules.{rules}
use Rattle.cross_hits.proofs.half_met.Goals as goal

pub returns-then-not-is_finite : goal.returns-then-not-is_finite
returns-then-not-is_finite c = search (half_unsound, rules)

pub returns-in-1 : goal.returns-in-1
returns-in-1 c = search (half_x, rules)

pub returns-in-2 : goal.returns-in-2
returns-in-2 c = search (half_y, rules)

pub returns-in-3 : goal.returns-in-3
returns-in-3 c = search (half_z, rules)

pub returns-in_default : goal.returns-in_default
returns-in_default c = search (half_beyond, rules)
