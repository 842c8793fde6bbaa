-- 13 for their lists; then the judgement refuses, or the lists are good.
use Rattle.std.proofs.lemmas.Result.{err_from_is_err_and}
use Rattle.line_blocks.proofs.PassLaws.{lists-accepted, lists-said}
use Rattle.line_judge.proofs.JudgeLaws.{judge_uneven, judge_refused, judge_given, even_by}
use borrow.Author.Rules.{rules}
use Rattle.line_judge.proofs.judge.Goals as goal

pub returns-in_err-need : goal.returns-in_err-need
returns-in_err-need c = let p = err_from_is_err_and c.from_residual.result c.from_residual.ensures.1 in rw (p.1, p.2) (judge_uneven (rw c.alike.ensures at c.need.ensures.asked) c.in_err-need.was)

pub returns-in_err-air : goal.returns-in_err-air
returns-in_err-air c =
    let p = err_from_is_err_and c.from_residual-in_err-air.result c.from_residual-in_err-air.ensures.1 in
    rw (p.1, p.2) (judge_refused (even_by c.alike.ensures c.need.ensures.so c.in_ok-need.was) c.judge.ensures c.in_err-air.was)

pub opine-requires : goal.opine-requires
opine-requires c = (search rules, lists-accepted c.judge.ensures c.in_ok-air.was c.requires, lists-said c.judge.ensures c.in_ok-air.was)

pub returns : goal.returns
returns c = judge_given (even_by c.alike.ensures c.need.ensures.so c.in_ok-need.was) c.judge.ensures c.in_ok-air.was c.opine.ensures
