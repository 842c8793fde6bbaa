-- `job_classify::classify` meets its promise: a refused sheet ends it, and an accepted one's lines are classified.
use Rattle.std.proofs.lemmas.Result.{err_from_is_err_and}
use Rattle.job_classify.proofs.ClassifyLaws.{sheet-refused, codes-within, few_codes, lines-walls, lines-refused}
use borrow.Author.Rules.{rules}
use Rattle.job_classify.proofs.classify.Goals as goal

pub returns-in_err-accepted-clause-classified : goal.returns-in_err-accepted-clause-classified
returns-in_err-accepted-clause-classified c =
    let p = err_from_is_err_and c.from_residual.result c.from_residual.ensures.1 in rw (p.1, p.2) (sheet-refused _ _ _ _ c.in_err-accepted.ensures)

pub slice_bounds-part-end : goal.slice_bounds-part-end
slice_bounds-part-end c = search (codes-within, rules, c.in_ok-accepted.ensures)

pub classify-requires : goal.classify-requires
classify-requires c = search (few_codes, rules, c.in_ok-accepted.ensures)

pub returns-in_err-count-clause-classified : goal.returns-in_err-count-clause-classified
returns-in_err-count-clause-classified c =
    let p = err_from_is_err_and c.from_residual-in_err-count.result c.from_residual-in_err-count.ensures.1 in
    rw (p.1, p.2) (lines-refused c.in_ok-accepted.ensures c.classify.ensures.done c.in_err-count.was)

pub returns-clause-classified : goal.returns-clause-classified
returns-clause-classified c = lines-walls c.in_ok-accepted.ensures c.classify.ensures.done c.in_ok-count.was
