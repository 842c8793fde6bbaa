-- `job_move::move_sheet` meets its contract: the sheets are refused, 0xFFF3 is out of use, the list is too short, or the moved sheet is given.
use Rattle.accepting.proofs.PreparedLaws.{ordered, inside, headed, fit}
use Rattle.sheet_reading.proofs.Settled.{read_err}
use Rattle.job_move.specs.Moving.{moving}
use Rattle.job_move.proofs.MoveLaws.{holding, codes_within, codes_taken, move_refused, move_asked, movable, move_given}
use borrow.Author.Rules.{rules}
use Rattle.job_move.proofs.move_sheet.Goals as goal

pub returns-in_err-read : goal.returns-in_err-read
unfolding moving
returns-in_err-read c = let h = read_err _ c.in_err-read.field-0.0 c.in_err-read.ensures in search rules

pub bounds-sheet-4 : goal.bounds-sheet-4
bounds-sheet-4 c = headed _ _ _ _ c.in_ok-read.ensures

pub slice_bounds-other_codes-count : goal.slice_bounds-other_codes-count
slice_bounds-other_codes-count c = ordered _ _ c.in_ok-read.ensures

pub slice_bounds-other_codes-start : goal.slice_bounds-other_codes-start
slice_bounds-other_codes-start c = let h = ordered _ _ c.in_ok-read.ensures in search rules

pub slice_bounds-other_codes-end : goal.slice_bounds-other_codes-end
slice_bounds-other_codes-end c = let h = inside _ _ _ _ c.in_ok-read.ensures in search rules

pub other_codes-n-requires : goal.other_codes-n-requires
other_codes-n-requires c = fit _ _ _ _ c.in_ok-read.ensures _ (search rules)

pub slice_bounds-codes-end : goal.slice_bounds-codes-end
slice_bounds-codes-end c = codes_within c.args.fitted c.args.fittings.now c.args.sheet.now c.args.moved.now c.in_ok-read.read c.in_ok-read.ensures _ _ c.other_codes-n.ensures

pub slice_bounds-codes-end-2 : goal.slice_bounds-codes-end-2
slice_bounds-codes-end-2 c = codes_taken c.args.fitted c.args.fittings.now c.args.sheet.now c.args.moved.now c.in_ok-read.read c.in_ok-read.ensures _ _ c.other_codes-n.ensures

pub used_at-requires : goal.used_at-requires
used_at-requires c = holding c.args.fitted c.args.fittings.now c.args.sheet.now c.args.moved.now c.in_ok-read.read c.in_ok-read.ensures _ _ c.other_codes-n.ensures

pub returns-in-Some : goal.returns-in-Some
returns-in-Some c =
    let e = move_refused c.args.fitted c.args.fittings.now c.args.sheet.now c.args.moved.now c.in_ok-read.read c.in_ok-read.ensures _ _ c.other_codes-n.ensures _ c.in-Some.ensures in
    rw (e, c.from.ensures, c.at.ensures) (search rules)

pub returns-in_err-room : goal.returns-in_err-room
returns-in_err-room c =
    let e = move_asked c.args.fitted c.args.fittings.now c.args.sheet.now c.args.moved.now c.in_ok-read.read c.in_ok-read.ensures _ _ c.other_codes-n.ensures c.in_default.ensures in
    rw e (search rules)

pub give_moved-requires : goal.give_moved-requires
give_moved-requires c = movable c.args.fitted c.args.fittings.now c.args.sheet.now c.args.moved.now c.in_ok-read.read c.in_ok-read.ensures _ _ c.other_codes-n.ensures (search rules)

pub returns : goal.returns
returns c = move_given c.args.fitted c.args.fittings.now c.args.sheet.now c.args.moved.now c.in_ok-read.read c.in_ok-read.ensures _ _ c.other_codes-n.ensures _ c.in_default.ensures (search rules) c.give_moved.ensures
