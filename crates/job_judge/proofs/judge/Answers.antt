-- `job_judge::judge` meets its promise: a refused sheet ends it, and with an accepted one their list is judged.
use Rattle.std.proofs.lemmas.Result.{err_from_is_err_and}
use Rattle.job_classify.proofs.ClassifyLaws.{codes-within, few_codes}
use Rattle.job_judge.proofs.JudgeLaws.{sheet-refused, their_opinion, their_refused}
use borrow.Author.Rules.{rules}
use Rattle.job_judge.proofs.judge.Goals as goal

pub returns-in_err-accepted : goal.returns-in_err-accepted
returns-in_err-accepted c = let p = err_from_is_err_and c.from_residual.result c.from_residual.ensures.1 in rw (p.1, p.2) (sheet-refused _ _ _ _ c.in_err-accepted.ensures)

pub slice_bounds-part-end : goal.slice_bounds-part-end
slice_bounds-part-end c = search (codes-within, rules, c.in_ok-accepted.ensures)

pub judge-requires : goal.judge-requires
judge-requires c = search (few_codes, rules, c.in_ok-accepted.ensures)

pub returns-in_err-opinion : goal.returns-in_err-opinion
returns-in_err-opinion c =
    let p = err_from_is_err_and c.from_residual-in_err-opinion.result c.from_residual-in_err-opinion.ensures.1 in
    rw (p.1, p.2) (their_refused c.in_ok-accepted.ensures c.judge.ensures c.in_err-opinion.was)

pub returns : goal.returns
returns c = their_opinion c.in_ok-accepted.ensures c.judge.ensures c.in_ok-opinion.was
