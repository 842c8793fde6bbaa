use mathlib.Core.Path.{refl}
use borrow.Author.Rules.{rules}
use Rattle.sheet.specs.Walk.{walk_end, walk_names}
use Rattle.sheet_reading.proofs.Reading.{read-refused, read_end, read-formula, read_name, name-room, name-here, name_known}
use Rattle.sheet_reading.proofs.read_fields.Goals as goal

pub loop-past-init : goal.loop-past-init
unfolding walk_end walk_names
loop-past-init c = (search rules, refl, refl)

pub returns-in_err-past : goal.returns-in_err-past
returns-in_err-past c =
    let e = read-refused c.args.edition c.args.fittings.now c.args.fitted c.args.sheet.now c.loop-past.at c.loop-past.names _ c.loop-past.invariant.2 c.loop-past.keys c.loop-past.invariant.0 _ _ c.in_err-past.ensures in
    rw e (search rules)

pub bounds-keys-fitted : goal.bounds-keys-fitted
bounds-keys-fitted c = name-room c.args.edition c.args.fittings.now c.args.fitted c.args.sheet.now c.in_ok-past.field-0 c.loop-past.at c.loop-past.names c.in_ok-past.ensures _ _ _ c.in-Name.is

pub loop-past-preserved : goal.loop-past-preserved
loop-past-preserved c = (
  name_known c.args.edition c.args.fittings.now c.args.fitted c.args.sheet.now c.in_ok-past.field-0 c.loop-past.at c.loop-past.names c.in_ok-past.ensures _ _ _ c.in-Name.is c.loop-past.invariant.1 _ c.loop-past.invariant.0,
  name-here c.args.edition c.args.fittings.now c.args.fitted c.args.sheet.now c.in_ok-past.field-0 c.loop-past.at c.loop-past.names c.in_ok-past.ensures _ _ _ c.in-Name.is c.loop-past.invariant.1,
  read_name c.args.edition c.args.fittings.now c.args.fitted c.args.sheet.now c.in_ok-past.field-0 c.loop-past.at c.loop-past.names c.in_ok-past.ensures _ _ _ c.in-Name.is c.loop-past.invariant.1 _ c.loop-past.invariant.2 _ c.loop-past.invariant.0,
)

pub returns-in_err-ended-in-Formula : goal.returns-in_err-ended-in-Formula
returns-in_err-ended-in-Formula c =
    let e = read-formula c.args.edition c.args.fittings.now c.args.fitted c.args.sheet.now c.in_ok-past.field-0 c.loop-past.at c.loop-past.names c.in_ok-past.ensures _ c.loop-past.invariant.2 c.loop-past.keys c.loop-past.invariant.0 _ _ _ c.in-Formula.is in
    rw e (search rules)

pub returns-in-Formula : goal.returns-in-Formula
returns-in-Formula c =
    let e = read-formula c.args.edition c.args.fittings.now c.args.fitted c.args.sheet.now c.in_ok-past.field-0 c.loop-past.at c.loop-past.names c.in_ok-past.ensures _ c.loop-past.invariant.2 c.loop-past.keys c.loop-past.invariant.0 _ _ _ c.in-Formula.is in
    rw e (search rules)

pub returns-in-End : goal.returns-in-End
returns-in-End c = rw c.at.ensures (read_end c.args.edition c.args.fittings.now c.args.fitted c.args.sheet.now c.in_ok-past.field-0 c.loop-past.at c.loop-past.names c.in_ok-past.ensures _ c.loop-past.invariant.2 c.loop-past.keys c.loop-past.invariant.0 c.in-End.is)
