-- `job_name::place_name` meets its contract.
use Rattle.job_name.proofs.Placing.{sheets_read, sheet-refused}
use borrow.Author.Rules.{rules}
use Rattle.job_name.proofs.place_name.Goals as goal

pub returns-in_err-read : goal.returns-in_err-read
returns-in_err-read c = let h = sheet-refused _ c.args.shape c.in_err-read.field-0.0 c.in_err-read.ensures in rw h (search rules)

pub in_sheets-requires : goal.in_sheets-requires
in_sheets-requires c = sheets_read _ _ c.in_ok-read.ensures
