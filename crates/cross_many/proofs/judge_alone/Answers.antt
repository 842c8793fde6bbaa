-- `cross_many::judge_alone` meets its contract: the way of one line decides.
use Rattle.cross_many.proofs.JudgeLaws.{line_wrong, line_right}
use borrow.Author.Rules.{rules}
use Rattle.cross_many.proofs.judge_alone.Goals as goal

pub returns-in-Err : goal.returns-in-Err
returns-in-Err c = search (line_wrong, rules)

pub returns-in-Ok : goal.returns-in-Ok
returns-in-Ok c = search (line_right, rules)
