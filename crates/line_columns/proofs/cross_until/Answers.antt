use Rattle.line_columns.proofs.WordLaws.{until_none, until_more}
use borrow.Author.Rules.{rules}
use Rattle.line_columns.proofs.cross_until.Goals as goal

pub loop-at-init : goal.loop-at-init
loop-at-init c = search (until_none, rules)

pub loop-at-preserved : goal.loop-at-preserved
loop-at-preserved c = search (until_more, rules)
