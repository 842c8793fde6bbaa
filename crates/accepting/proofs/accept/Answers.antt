-- `accepting::accept` meets its contract: a sheet is refused, or the sheets are accepted.
use mathlib.Core.Path.{◌≡◌}
use Rattle.std.specs.Prelude.{Err}
use Rattle.accepting.proofs.PreparedLaws.{sheet-refused, ordered, inside, headed, fit, coded-given}
use borrow.Author.Rules.{rules}
use Rattle.accepting.proofs.accept.Goals as goal

pub returns-in_err-read : goal.returns-in_err-read
returns-in_err-read c =
    let e : c.from_residual.result ≡ Err c.in_err-read.field-0.0 = search rules in
    rw e (sheet-refused _ c.in_err-read.field-0.0 c.in_err-read.ensures)

pub bounds-sheet-4 : goal.bounds-sheet-4
bounds-sheet-4 c = headed _ _ _ _ c.in_ok-read.ensures

pub slice_bounds-fill_codes-count : goal.slice_bounds-fill_codes-count
slice_bounds-fill_codes-count c = ordered _ _ c.in_ok-read.ensures

pub slice_bounds-fill_codes-start : goal.slice_bounds-fill_codes-start
slice_bounds-fill_codes-start c = let h = ordered _ _ c.in_ok-read.ensures in search rules

pub slice_bounds-fill_codes-end : goal.slice_bounds-fill_codes-end
slice_bounds-fill_codes-end c = let h = inside _ _ _ _ c.in_ok-read.ensures in search rules

pub fill_codes-n-requires : goal.fill_codes-n-requires
fill_codes-n-requires c = fit _ _ _ _ c.in_ok-read.ensures _ c.told-codes

pub returns : goal.returns
returns c = coded-given _ _ _ _ c.in_ok-read.ensures _ _ c.fill_codes-n.ensures
