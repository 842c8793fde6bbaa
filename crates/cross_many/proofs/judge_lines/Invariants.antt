-- `cross_many::judge_lines` meets its contract: k lines are right, and what is left decides.
use Rattle.cross_many.proofs.JudgeLaws.{Judging}
use Rattle.cross_many.proofs.judge_lines.Given as goal

abbrev pub invariant-loop-k : goal.invariant-loop-k
invariant-loop-k l = Judging l.drawing.kinds.now l.drawing.numbers.now l.lines l.count l.reach l.k
