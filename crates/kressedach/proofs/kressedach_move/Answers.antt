-- `kressedach::kressedach_move` meets its contract: each case of the answer is reported as the definition reports it.
use borrow.Author.Rules.{rules}
use Rattle.kressedach.proofs.ReportLaws.{move_reported, move_refused, move_unfit}
use Rattle.kressedach.proofs.kressedach_move.Goals as goal

pub returns-in-Ok : goal.returns-in-Ok
returns-in-Ok c = search (move_reported, rules)

pub returns-in-Err-Refused : goal.returns-in-Err-Refused
returns-in-Err-Refused c = search (move_refused, rules)

pub returns-in-Err-Unfit : goal.returns-in-Err-Unfit
returns-in-Err-Unfit c = search (move_unfit, rules)
