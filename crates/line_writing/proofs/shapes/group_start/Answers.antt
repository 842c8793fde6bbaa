use borrow.Author.Rules.{rules}
use Rattle.line_writing.proofs.GroupLaws.{back_start, back_on, back_end}
use Rattle.line_writing.proofs.shapes.group_start.Goals as goal

pub loop-h-init : goal.loop-h-init
loop-h-init c = search back_start

pub loop-h-preserved : goal.loop-h-preserved
loop-h-preserved c = search (back_on, rules)

pub returns : goal.returns
returns c = search (back_end, rules)
