-- `sheet_descent::judge_first` meets its contract.
use Rattle.sheet_descent.proofs.Judged.{judged-early, judged-whole}
use borrow.Author.Rules.{rules}
use Rattle.sheet_descent.proofs.judge_first.Goals as goal

pub returns-in_err-need-in-Some : goal.returns-in_err-need-in-Some
returns-in_err-need-in-Some c = rw (judged-whole _ _ _ _ c.requires _ _ _ c.in-Some.ensures.descended) (search rules)

pub returns-in_ok-need-in-Some : goal.returns-in_ok-need-in-Some
returns-in_ok-need-in-Some c = rw (judged-whole _ _ _ _ c.requires _ _ _ c.in-Some.ensures.descended) (search rules)

pub returns-in-None : goal.returns-in-None
returns-in-None c = search (judged-early, rules)
