-- `job_edit::run_on` meets its contract: toggles, edits and answer lists are judged, then the run is given.
use mathlib.Core.Path.{refl, sym, ◌∙◌}
use Rattle.job_edit.proofs.EditLaws.{run_room, run_given}
use Rattle.job_edit.proofs.run_on.Goals as goal

pub run_edited-requires : goal.run_edited-requires
run_edited-requires c =
    let r = c.args.records.now in
    let e = c.args.edits in
    run_room c.args.formula.now r.kinds r.firsts r.seconds c.args.size.leaves c.args.size.nodes c.args.names c.args.toggles.now
    e.moments.now e.positions.now e.codes.now c.args.roots.now c.args.counts.now c.args.labels.now c.args.edit_counts.now
    (sym c.equally_long.ensures ∙ c.in_ok-need.ensures.so refl) (c.in_ok-all_named.ensures.so refl) (c.in_ok-all_fit.ensures.so refl)
    (c.in_ok-room.ensures.so refl) (c.in_ok-room-2.ensures.so refl) (c.in_ok-room-3.ensures.so refl) (c.in_ok-room-4.ensures.so refl)
    c.requires.few.0 c.requires.few.1 c.requires.buildable

pub returns : goal.returns
returns c =
    let r = c.args.records.now in
    let e = c.args.edits in
    run_given c.args.formula.now r.kinds r.firsts r.seconds c.args.size.leaves c.args.size.nodes c.args.names c.args.toggles.now
    e.moments.now e.positions.now e.codes.now c.args.roots.now c.args.counts.now c.args.labels.now c.args.edit_counts.now
    (sym c.equally_long.ensures ∙ c.in_ok-need.ensures.so refl) (c.in_ok-all_named.ensures.so refl) (c.in_ok-all_fit.ensures.so refl)
    (c.in_ok-room.ensures.so refl) (c.in_ok-room-2.ensures.so refl) (c.in_ok-room-3.ensures.so refl) (c.in_ok-room-4.ensures.so refl)
    c.run_edited.ensures.runs
