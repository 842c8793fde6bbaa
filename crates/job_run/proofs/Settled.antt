-- What the promise of a toggle run settles: two results that meet it are equal; it refuses exactly when the rules say, and then writes nothing.
use Prim.Native.Nat.{ℕ}
use mathlib.Core.Path.{◌≡◌, refl}
use mathlib.Core.List.{List}
use lib.Dec.{eqb, lit<}
use lib.ListN.{length}
use Rattle.outcome.specs.Outcome.{given, refused, unfit, room}
use Rattle.outcome.specs.Numbered.{Numbered}
use Rattle.outcome.specs.Settled.{Unique, Refusal, Refuses, Three}
use Rattle.outcome.proofs.Questions.{need-given, then_given, bind_given, given-same}
use Rattle.outcome.proofs.NumberedLaws.{given-numbered, asks, room-asks, bind_numbered}
use Rattle.outcome.proofs.Settling.{known_by, saying, OnSheets, on_sheets}
use Rattle.contraction.specs.Rounds.{dwarf}
use Rattle.sheet.specs.Sheet.{Sheets, Sheet}
use Rattle.accepting.specs.Accepting.{accepted}
use Rattle.accepting.proofs.Accepted.{accepted-numbered}
use Rattle.toggles.specs.Toggles.{Answers}
use Rattle.toggles.specs.Named.{first_wrong}
use Rattle.job_run.specs.Running.{answers_of, toggling, running}
use Rattle.job_run.specs.Ran.{Ran}
use Rattle.outcome.specs.Refusing.{answered}
use Rattle.outcome.proofs.Judging.{answered_same}

run_settled : OnSheets (Three Ran) refused unfit
run_settled =
    on_sheets (λ v. v) (λ v. length v.final) (λ r q e. e) (λ k p. (refl, refl)) (λ o lent r after a. a.answer)
    (λ o lent r after a i. (a.lists.roots_list i, a.lists.counts_list i, a.lists.labels_list i)) (λ k p lent. (refl, refl))

-- Answers are known by what they say.
pub run_unique : Unique (λ o lent r after. Three Ran o lent (answered {A = ℕ} r) after)
run_unique = λ o lent r q after other a b. let u = run_settled.own.unique o lent (answered r) (answered q) after other a b in (answered_same r q u.0, u.1)

pub run_refusal : Refusal (Three Ran) refused refused
run_refusal = run_settled.own.refusal

pub run_refuses : Refuses (Three Ran) refused refused
run_refuses = run_settled.own.refuses

-- and of the fittings sheet
pub run_unfit : Refusal (Three Ran) unfit unfit
run_unfit = run_settled.fittings.refusal

pub run_unfits : Refuses (Three Ran) unfit unfit
run_unfits = run_settled.fittings.refuses

-- No refusal has number 0.
pub run_numbered : (s : Sheets) (ts : List ℕ) (roots counts labels : ℕ) → Numbered (running s ts roots counts labels)
unfolding running toggling
run_numbered s ts roots counts labels = bind_numbered (accepted s) _ (accepted-numbered s) (λ x. search (asks, room-asks, given-numbered, lit<))

-- A job that answers has accepted the sheet, and its answers are those of the sheet's formula.
pub ran_accepted : (s : Sheets) (ts : List ℕ) (a b c : ℕ) (v : Answers) → running s ts a b c ≡ given v → (x : Sheet) × (accepted s ≡ given x) × (answers_of x.formula ts ≡ v)
unfolding running toggling
ran_accepted s ts a b c v is =
    let x = bind_given (accepted s) (λ (y : Sheet). toggling y.formula (length y.names) ts a b c) v is in
    let g = x.0.formula in
    let n = length ts in
    let wrong = first_wrong (length x.0.names) ts in
    let named = (need-given (eqb wrong n) 10 wrong _ v x.2).1 in
    let rest = (then_given (room n b) _ v (then_given (room n a) _ v named).2).2 in
    (x.0, x.1, given-same (answers_of g ts) v (then_given (room (length (dwarf g)) c) (given (answers_of g ts)) v rest).2)
