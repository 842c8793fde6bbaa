-- A result is known by what it says: each reason has a number of its own.
use Prim.Native.Nat.{ℕ}
use mathlib.Core.Path.{◌≡◌, refl, sym, ap, ◌∙◌}
use mathlib.Core.Bool.{cond}
use lib.Dec.{eqb}
use Rattle.std.proofs.Common.{Result, Ok, Err}
use Rattle.outcome.specs.Outcome.{Outcome, given, refused, unfit}
use Rattle.outcome.specs.Refusing.{number_of, fault, judged, answered}
use Rattle.outcome.specs.declared.Reason.{Reason}
use Rattle.outcome.specs.declared.Reason.TheVariants as reason
use Rattle.outcome.specs.declared.Fault.{Fault}
use Rattle.outcome.specs.declared.Refusal.{Refusal}
use Rattle.outcome.specs.declared.Refusal.TheVariants as refusal

-- The reason with this number.
abbrev reason_of : ℕ → Reason
reason_of n =
    cond (eqb n 1) reason.EndsTooSoon (
    cond (eqb n 2) reason.TagOutOfPlace (
    cond (eqb n 3) reason.HeaderWrong (
    cond (eqb n 4) reason.NameWrong (
    cond (eqb n 5) reason.NameTaken (
    cond (eqb n 6) reason.TooLarge (
    cond (eqb n 7) reason.FormulaWrong (
    cond (eqb n 9) reason.ListTooShort (
    cond (eqb n 10) reason.NoSuchShape (
    cond (eqb n 11) reason.Falls (
    cond (eqb n 13) reason.LengthsDiffer (
    cond (eqb n 14) reason.RowsWrong (
    cond (eqb n 15) reason.Astray (
    cond (eqb n 16) reason.ShapeWrong (
    cond (eqb n 17) reason.FittingsName (
    cond (eqb n 18) reason.BallWrong (
    cond (eqb n 19) reason.OutOfUse (
    reason.EditWrong)))))))))))))))))

known : (r : Reason) → reason_of (number_of r) ≡ r
known reason.EndsTooSoon = refl
known reason.TagOutOfPlace = refl
known reason.HeaderWrong = refl
known reason.NameWrong = refl
known reason.NameTaken = refl
known reason.TooLarge = refl
known reason.FormulaWrong = refl
known reason.ListTooShort = refl
known reason.NoSuchShape = refl
known reason.Falls = refl
known reason.LengthsDiffer = refl
known reason.RowsWrong = refl
known reason.Astray = refl
known reason.ShapeWrong = refl
known reason.FittingsName = refl
known reason.BallWrong = refl
known reason.OutOfUse = refl
known reason.EditWrong = refl

abbrev fault_of : ℕ → ℕ → Fault
fault_of number place = fault (reason_of number) place

known_fault : (f : Fault) → fault_of (number_of f.reason) f.place ≡ f
known_fault f = ap (λ r. fault r f.place) (known f.reason)

module _ {A : Type 0} where
  abbrev result_of : Outcome A → Result A Fault
  result_of (given a) = Ok a
  result_of (refused number place) = Err (fault_of number place)
  result_of (unfit number place) = Err (fault_of number place)

  known_result : (r : Result A Fault) → result_of (judged r) ≡ r
  known_result (Ok a) = refl
  known_result (Err f) = ap (λ x. Err x) (known_fault f)

  pub judged_same : (r q : Result A Fault) → judged r ≡ judged q → r ≡ q
  judged_same r q e = sym (known_result r) ∙ ap result_of e ∙ known_result q

  abbrev answer_of : Outcome A → Result A Refusal
  answer_of (given a) = Ok a
  answer_of (refused number place) = Err (refusal.Refused (fault_of number place))
  answer_of (unfit number place) = Err (refusal.Unfit (fault_of number place))

  known_answer : (r : Result A Refusal) → answer_of (answered r) ≡ r
  known_answer (Ok a) = refl
  known_answer (Err (refusal.Refused f)) = ap (λ x. Err (refusal.Refused x)) (known_fault f)
  known_answer (Err (refusal.Unfit f)) = ap (λ x. Err (refusal.Unfit x)) (known_fault f)

  pub answered_same : (r q : Result A Refusal) → answered r ≡ answered q → r ≡ q
  answered_same r q e = sym (known_answer r) ∙ ap answer_of e ∙ known_answer q
