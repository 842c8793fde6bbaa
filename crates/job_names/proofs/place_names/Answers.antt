-- `job_names::place_names` meets its promise.
use mathlib.Core.Path.{◌≡◌}
use Rattle.std.specs.Prelude.{Err}
use Rattle.job_name.proofs.Placing.{sheets_read}
use Rattle.job_names.proofs.Giving.{all-refused}
use borrow.Author.Rules.{rules}
use Rattle.job_names.proofs.place_names.Goals as goal

pub returns-in_err-read : goal.returns-in_err-read
returns-in_err-read c =
    let e : c.from_residual.result ≡ Err c.in_err-read.field-0.0 = search rules in
    rw e (all-refused _ c.in_err-read.field-0.0 c.in_err-read.ensures _ _ _)

pub give_names-requires : goal.give_names-requires
give_names-requires c = sheets_read _ _ c.in_ok-read.ensures
