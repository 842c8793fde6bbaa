-- `kressedach::kressedach_read` meets its contract: each case of the answer is reported as the definition reports it.
use Rattle.kressedach.proofs.ReportLaws.{given-told, refused-told, unfit-told, read_reported, read-refused, read-unfit}
use Rattle.kressedach.proofs.kressedach_read.Goals as goal

pub returns-in-Ok : goal.returns-in-Ok
returns-in-Ok c = read_reported (given-told c.read_sheets.ensures c.in-Ok.is)

pub returns-in-Err-Refused : goal.returns-in-Err-Refused
returns-in-Err-Refused c = read-refused c.sheet_of.ensures (refused-told c.read_sheets.ensures c.in-Err-Refused.is c.in-Err-Refused.field-0-is c.number-number.ensures)

pub returns-in-Err-Unfit : goal.returns-in-Err-Unfit
returns-in-Err-Unfit c = read-unfit (unfit-told c.read_sheets.ensures c.in-Err-Unfit.is c.in-Err-Unfit.field-0-is c.number.ensures)
