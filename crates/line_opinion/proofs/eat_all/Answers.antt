use borrow.Author.Rules.{rules}
use Rattle.std.proofs.lemmas.Result.{err_from_is_err_and}
use Rattle.line_opinion.proofs.EatLaws.{even}
use Rattle.line_opinion.proofs.AllLaws.{eating_more, eating_wrong, eating_end}
use Rattle.line_opinion.proofs.eat_all.Goals as goal

pub returns-in_err-next : goal.returns-in_err-next
returns-in_err-next c = let p = err_from_is_err_and c.from_residual.result c.from_residual.ensures.1 in rw (p.1, p.2) (search (eating_wrong, even, rules, c.in_err-next.ensures))

pub loop-k-preserved : goal.loop-k-preserved
loop-k-preserved c = search (eating_more, even, rules, c.in_ok-next.ensures)

pub returns : goal.returns
returns c = search (eating_end, even, rules)
