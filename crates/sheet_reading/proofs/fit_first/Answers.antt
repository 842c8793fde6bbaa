-- `sheet_reading::fit_first` meets its contract, by the flag.
use Rattle.sheet_reading.proofs.Fitting.{first_fitted, first-none}
use borrow.Author.Rules.{rules}
use Rattle.sheet_reading.proofs.fit_first.Goals as goal

pub returns-then-fitted : goal.returns-then-fitted
returns-then-fitted c = search (first_fitted, rules)

pub returns-else-fitted : goal.returns-else-fitted
returns-else-fitted c = search (first-none, rules)
