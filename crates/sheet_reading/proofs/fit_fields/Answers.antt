use borrow.Author.Rules.{rules}
use mathlib.Core.Path.{◌≡◌, refl}
use Rattle.std.specs.Prelude.{Err}
use Rattle.sheet.specs.Walk.{walk_end, walk_names}
use Rattle.sheet_reading.proofs.Fitting.{fit_start, fit_room, fit_here, fit_known, fit_name, fit_formula, fit_end, fit_refused}
use Rattle.sheet_reading.proofs.fit_fields.Goals as goal

pub loop-past-init : goal.loop-past-init
unfolding walk_end walk_names
loop-past-init c = (search (fit_start, rules), refl, refl)

pub returns-in_err-past : goal.returns-in_err-past
returns-in_err-past c =
    let e : c.from_residual.result ≡ Err c.in_err-past.field-0.0 = search rules in
    rw e (fit_refused _ _ _ _ c.loop-past.invariant.2 _ c.loop-past.invariant.0 _ c.in_err-past.ensures)

pub bounds-keys-names : goal.bounds-keys-names
bounds-keys-names c = fit_room c.args.sheet.now c.in_ok-past.field-0 c.loop-past.at c.loop-past.names c.in_ok-past.ensures _ _ _ c.in-Name.is

pub loop-past-preserved : goal.loop-past-preserved
loop-past-preserved c = (
  fit_known c.args.sheet.now c.in_ok-past.field-0 c.loop-past.at c.loop-past.names c.in_ok-past.ensures _ _ _ c.in-Name.is c.loop-past.invariant.1 _ c.loop-past.invariant.0,
  fit_here c.args.sheet.now c.in_ok-past.field-0 c.loop-past.at c.loop-past.names c.in_ok-past.ensures _ _ _ c.in-Name.is c.loop-past.invariant.1,
  fit_name c.args.sheet.now c.in_ok-past.field-0 c.loop-past.at c.loop-past.names c.in_ok-past.ensures _ _ _ c.in-Name.is c.loop-past.invariant.1 _ c.loop-past.invariant.2 _ c.loop-past.invariant.0,
)

pub returns-in-Formula : goal.returns-in-Formula
returns-in-Formula c = fit_formula c.args.sheet.now c.in_ok-past.field-0 c.loop-past.at c.loop-past.names c.in_ok-past.ensures _ _ _ _ c.loop-past.keys c.at.result c.in-Formula.is

pub returns-in-End : goal.returns-in-End
returns-in-End c = fit_end c.args.sheet.now c.in_ok-past.field-0 c.loop-past.at c.loop-past.names c.in_ok-past.ensures _ c.loop-past.invariant.2 _ c.loop-past.invariant.0 c.in-End.is
