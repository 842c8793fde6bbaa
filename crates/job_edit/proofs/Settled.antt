-- What the promise of a toggle run with edits settles: two results that meet it are equal; it refuses exactly when the rules say, and then writes nothing.
use Prim.Native.Nat.{ℕ}
use mathlib.Core.Path.{◌≡◌, refl}
use mathlib.Core.List.{List}
use lib.Dec.{eqb, lit<}
use mathlib.Core.Bool.{◌&&◌}
use lib.ListN.{length}
use Rattle.outcome.specs.Outcome.{given, refused, unfit, room}
use Rattle.outcome.specs.Numbered.{Numbered}
use Rattle.outcome.specs.Settled.{Unique, Refusal, Refuses}
use Rattle.outcome.proofs.Questions.{need-given, then_given, bind_given, given-same}
use Rattle.outcome.proofs.NumberedLaws.{given-numbered, asks, room-asks, bind_numbered}
use Rattle.outcome.proofs.Settling.{OnSheets, on_sheets}
use Rattle.formula.specs.Formula.{postfix}
use Rattle.contraction.specs.Rounds.{dwarf}
use Rattle.sheet.specs.Sheet.{Sheets, Sheet}
use Rattle.accepting.specs.Accepting.{accepted}
use Rattle.accepting.proofs.Accepted.{accepted-numbered}
use Rattle.toggles.specs.Named.{first_wrong}
use Rattle.edit_checking.specs.Fits.{first_unfit}
use Rattle.edit_moments.specs.Edits.{edits_of}
use Rattle.edit_mix.specs.Edits.{Answers, answers_of}
use Rattle.outcome.specs.Refusing.{answered}
use Rattle.outcome.proofs.Judging.{answered_same}
use Rattle.job_edit.specs.Editing.{Lists, lending, editing, running_edited}
use Rattle.job_edit.specs.Edited.{Edited}

edit-settled : OnSheets Edited refused unfit
edit-settled =
    on_sheets (λ v. v) (λ v. length v.final) (λ r q e. e) (λ k p. (refl, refl)) (λ o lent r after a. a.answer)
    (λ o lent r after a i. record { roots = a.lists.roots_list i; counts = a.lists.counts_list i; labels = a.lists.labels_list i; edit_counts = a.lists.edit_counts_list i }) (λ k p lent. (refl, refl))

-- Answers are known by what they say.
pub edit_unique : Unique (λ o lent r after. Edited o lent (answered {A = ℕ} r) after)
edit_unique = λ o lent r q after other a b. let u = edit-settled.own.unique o lent (answered {A = ℕ} r) (answered q) after other a b in (answered_same r q u.0, u.1)

pub edit_refusal : Refusal Edited refused refused
edit_refusal = edit-settled.own.refusal

pub edit-refuses : Refuses Edited refused refused
edit-refuses = edit-settled.own.refuses

-- and of the fittings sheet
pub edit-unfit : Refusal Edited unfit unfit
edit-unfit = edit-settled.fittings.refusal

pub edit_unfits : Refuses Edited unfit unfit
edit_unfits = edit-settled.fittings.refuses

-- No refusal has number 0.
pub edit-numbered : (s : Sheets) (toggles ms ps cs : List ℕ) (lent : Lists) → Numbered (running_edited s toggles ms ps cs lent)
unfolding running_edited editing lending
edit-numbered s toggles ms ps cs lent = bind_numbered (accepted s) _ (accepted-numbered s) (λ x. search (asks, room-asks, given-numbered, lit<) depth 12)

-- A job that answers has accepted the sheet, and its answers are those of the sheet's formula with these toggles and edits.
pub edited-accepted : (s : Sheets) (toggles ms ps cs : List ℕ) (lent : Lists) (v : Answers) → running_edited s toggles ms ps cs lent ≡ given v
    → (x : Sheet) × (accepted s ≡ given x) × (answers_of x.formula toggles (edits_of ms ps cs) ≡ v)
unfolding running_edited editing lending
edited-accepted s toggles ms ps cs lent v is =
    let x = bind_given (accepted s) (λ (y : Sheet). editing y.formula (length y.names) toggles ms ps cs lent) v is in
    let g = x.0.formula in
    let wrong = first_wrong (length x.0.names) toggles in
    let unfit-at = first_unfit (postfix g) (length toggles) 0 ms ps cs in
    let a = (need-given (eqb (length ps) (length ms) && eqb (length cs) (length ms)) 13 0 _ v x.2).1 in
    let b = (need-given (eqb wrong (length toggles)) 10 wrong _ v a).1 in
    let c = (need-given (eqb unfit-at (length ms)) 20 unfit-at (lending g toggles ms ps cs lent) v b).1 in
    let r = (then_given (room (length toggles) (length lent.roots)) _ v c).2 in
    let n = (then_given (room (length toggles) (length lent.counts)) _ v r).2 in
    let l = (then_given (room (length (dwarf g)) (length lent.labels)) _ v n).2 in
    let e = (then_given (room (length ms) (length lent.edit_counts)) (given (answers_of g toggles (edits_of ms ps cs))) v l).2 in
    (x.0, x.1, given-same (answers_of g toggles (edits_of ms ps cs)) v e)
