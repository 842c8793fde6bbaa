-- `cross_many::judge_line` meets its contract: the reach decides, or the way of one line.
use Rattle.cross_many.proofs.JudgeLaws.{line_reached}
use borrow.Author.Rules.{rules}
use Rattle.cross_many.proofs.judge_line.Goals as goal

pub returns-then-judge : goal.returns-then-judge
returns-then-judge c = search (line_reached, rules)
