-- `sheet_reading::read_sheets` meets its contract: the fittings sheet is refused, or the customer's is read beside its names.
use Rattle.sheet_reading.proofs.Fitting.{sheets_unfit, sheets_told}
use borrow.Author.Rules.{rules}
use Rattle.sheet_reading.proofs.read_sheets.Goals as goal

pub read_own-requires : goal.read_own-requires
read_own-requires c = c.in-Ok.ensures.known

pub returns-in_err-read_own-in-Ok : goal.returns-in_err-read_own-in-Ok
returns-in_err-read_own-in-Ok c =
    let e = sheets_told c.args.fitted c.args.fittings.now c.args.sheet.now _ _ c.fit_first.ensures _ c.in-Ok.is in
    rw e (search rules)

pub returns-in_ok-read_own-in-Ok : goal.returns-in_ok-read_own-in-Ok
returns-in_ok-read_own-in-Ok c =
    let e = sheets_told c.args.fitted c.args.fittings.now c.args.sheet.now _ _ c.fit_first.ensures _ c.in-Ok.is in
    rw e (search rules)

pub returns-in-Err : goal.returns-in-Err
returns-in-Err c = sheets_unfit c.args.fitted c.args.fittings.now c.args.sheet.now _ _ c.fit_first.ensures _ c.in-Err.is
