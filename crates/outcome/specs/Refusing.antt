-- A refusal as code gives it: its number, and what a `Result` says.
use Rattle.std.specs.Prelude.{ℕ, Result, Ok, Err}
use Rattle.outcome.specs.Outcome.{Outcome, given, refused, unfit}
use Rattle.outcome.specs.declared.Reason.{Reason}
use Rattle.outcome.specs.declared.Reason.TheVariants as reason
use Rattle.outcome.specs.declared.Fault.{Fault}
use Rattle.outcome.specs.declared.Refusal.{Refusal}
use Rattle.outcome.specs.declared.Refusal.TheVariants as refusal

-- The number of a reason in the lists of documents 01 and 02.
abbrev pub number_of : Reason → ℕ
number_of reason.EndsTooSoon = 1
number_of reason.TagOutOfPlace = 2
number_of reason.HeaderWrong = 3
number_of reason.NameWrong = 4
number_of reason.NameTaken = 5
number_of reason.TooLarge = 6
number_of reason.FormulaWrong = 7
number_of reason.ListTooShort = 9
number_of reason.NoSuchShape = 10
number_of reason.Falls = 11
number_of reason.LengthsDiffer = 13
number_of reason.RowsWrong = 14
number_of reason.Astray = 15
number_of reason.ShapeWrong = 16
number_of reason.FittingsName = 17
number_of reason.BallWrong = 18
number_of reason.OutOfUse = 19
number_of reason.EditWrong = 20

abbrev pub fault : Reason → ℕ → Fault
fault r p = record { reason = r; place = p }

-- What a question answers, and what a job answers, of which the fittings sheet may be what is refused.
abbrev pub judged : {A : Type 0} → Result A Fault → Outcome A
judged (Ok a) = given a
judged (Err f) = refused (number_of f.reason) f.place

abbrev pub answered : {A : Type 0} → Result A Refusal → Outcome A
answered (Ok a) = given a
answered (Err (refusal.Refused f)) = refused (number_of f.reason) f.place
answered (Err (refusal.Unfit f)) = unfit (number_of f.reason) f.place
