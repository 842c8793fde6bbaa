use mathlib.Core.Path.{sym}
use Rattle.cross_many.proofs.JudgeLaws.{judging-starts, judging-wrong, judging-on, judging-ends}
use borrow.Author.Rules.{rules}
use Rattle.cross_many.proofs.judge_lines.Goals as goal

pub returns-in_err-judge_line : goal.returns-in_err-judge_line
returns-in_err-judge_line c = judging-wrong _ _ _ _ _ _ c.loop-k.invariant c.loop-k-test.true _ c.probe_at.ensures _ c.judge_line.ensures _ c.in_err-judge_line.was _ (search rules)

pub loop-k-preserved : goal.loop-k-preserved
loop-k-preserved c = judging-on _ _ _ _ _ _ c.loop-k.invariant c.loop-k-test.true _ c.probe_at.ensures _ c.judge_line.ensures _ c.in_ok-judge_line.was

pub returns : goal.returns
returns c = search (judging-ends, rules)
