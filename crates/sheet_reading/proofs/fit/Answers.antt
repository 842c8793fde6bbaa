-- `sheet_reading::fit` meets its contract.
use borrow.Author.Rules.{rules}
use mathlib.Core.Path.{◌≡◌}
use Rattle.std.specs.Prelude.{Err}
use Rattle.sheet_reading.proofs.Reading.{head_inside}
use Rattle.sheet_reading.proofs.Fitting.{fit_good, fit_head_refused}
use Rattle.sheet_reading.proofs.fit.Goals as goal

pub returns-in_err-header : goal.returns-in_err-header
returns-in_err-header c =
    let e : c.from_residual.result ≡ Err c.in_err-header.field-0.0 = search rules in
    rw e (fit_head_refused c.args.sheet.now c.header.result c.header.ensures c.args.keys.now c.in_err-header.field-0.0 c.in_err-header.was)

pub fit_fields-requires : goal.fit_fields-requires
fit_fields-requires c = search (head_inside, rules)

pub returns : goal.returns
returns c = fit_good c.args.sheet.now c.header.result c.header.ensures _ _ _ c.in_ok-header.was c.fit_fields.ensures
