use borrow.Author.Rules.{rules}
use Rattle.line_strips.proofs.Flips.{rowed_none, rowed_chunk, rowed_end}
use Rattle.line_strips.proofs.flip_row.Goals as goal

pub loop-c-init : goal.loop-c-init
loop-c-init c = search (rowed_none, rules)

pub loop-c-preserved : goal.loop-c-preserved
loop-c-preserved c = search (rowed_chunk, rules)

pub returns : goal.returns
returns c = search (rowed_end, rules)
