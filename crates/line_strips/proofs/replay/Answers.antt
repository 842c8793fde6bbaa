use borrow.Author.Rules.{rules}
use Rattle.line_strips.proofs.Flips.{legible_next}
use Rattle.line_strips.proofs.Opens.{replaying_none, replaying_more, replaying_room, replaying_end}
use Rattle.line_strips.proofs.replay.Goals as goal

pub loop-i-init : goal.loop-i-init
loop-i-init c = search (replaying_none, rules)

pub flip_column-requires : goal.flip_column-requires
flip_column-requires c = (search (replaying_room, rules), search rules, search (legible_next, rules))

pub loop-i-preserved : goal.loop-i-preserved
loop-i-preserved c = search (replaying_more, rules)

pub returns : goal.returns
returns c = search (replaying_end, rules)
