-- `kressedach::kressedach_name` meets its contract: each case of the answer is reported as the definition reports it.
use borrow.Author.Rules.{rules}
use Rattle.kressedach.proofs.ReportLaws.{name_given, name-refused, name-unfit}
use Rattle.kressedach.proofs.kressedach_name.Goals as goal

pub returns-in-Ok-Fitting : goal.returns-in-Ok-Fitting
returns-in-Ok-Fitting c = name_given c.place_name.ensures c.in-Ok-Fitting.is c.in-Ok-Fitting.field-0-is

pub returns-in-Ok-Own : goal.returns-in-Ok-Own
returns-in-Ok-Own c = name_given c.place_name.ensures c.in-Ok-Own.is c.in-Ok-Own.field-0-is

pub returns-in-Err-Refused : goal.returns-in-Err-Refused
returns-in-Err-Refused c = search (name-refused, rules)

pub returns-in-Err-Unfit : goal.returns-in-Err-Unfit
returns-in-Err-Unfit c = search (name-unfit, rules)
