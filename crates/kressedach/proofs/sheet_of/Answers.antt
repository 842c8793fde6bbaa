-- `kressedach::sheet_of` meets its contract.
use Rattle.kressedach.proofs.ReportLaws.{sheet-low, sheet_17, sheet-none}
use Rattle.kressedach.proofs.sheet_of.Goals as goal

pub returns-then-number-le7 : goal.returns-then-number-le7
returns-then-number-le7 c = search sheet-low

pub returns-then-number-eq17 : goal.returns-then-number-eq17
returns-then-number-eq17 c = search sheet_17

pub returns : goal.returns
returns c = search sheet-none
