-- What the promise of the move settles: two results that meet it are equal; it refuses exactly when the rules say, and then writes nothing.
use Prim.Native.Nat.{ℕ}
use mathlib.Core.Path.{refl, sym, ◌∙◌}
use lib.ListN.{length}
use lib.Dec.{lit<}
use Rattle.outcome.specs.Outcome.{refused, unfit}
use Rattle.outcome.specs.Numbered.{Numbered}
use Rattle.outcome.specs.Settled.{Unique, Refusal, Refuses, Said}
use Rattle.outcome.proofs.NumberedLaws.{given-numbered, asks, room-asks, bind_numbered}
use Rattle.outcome.proofs.Settling.{OnSheets, on_sheets}
use Rattle.outcome.proofs.Judging.{answered_same}
use Rattle.outcome.specs.Refusing.{answered}
use Rattle.sheet.specs.Sheet.{Sheets, reading}
use Rattle.sheet.proofs.Numbered.{reading-numbered}
use Rattle.job_move.specs.Moving.{moving}
use Rattle.job_move.specs.Moved.{Moved}

-- as a promise on what the answer says
move_settled : OnSheets (Said answered Moved) refused unfit
move_settled =
    on_sheets (λ v. v) length (λ r q e. e) (λ k p. (refl, refl)) (λ o lent v after a. sym a.1.0 ∙ a.1.1.answer)
    (λ o lent v after a. a.1.1.list) (λ k p lent. (refl, refl))

pub move_unique : Unique Moved
move_unique = λ o lent r q after other a b. (answered_same r q (a.answer ∙ sym b.answer), (move_settled.own.unique o lent (answered r) (answered q) after other (r, (refl, a)) (q, (refl, b))).1)

pub move_refusal : Refusal (Said answered Moved) refused refused
move_refusal = move_settled.own.refusal

pub move_refuses : Refuses (Said answered Moved) refused refused
move_refuses = move_settled.own.refuses

-- and of the fittings sheet
pub move_unfit : Refusal (Said answered Moved) unfit unfit
move_unfit = move_settled.fittings.refusal

pub move_unfits : Refuses (Said answered Moved) unfit unfit
move_unfits = move_settled.fittings.refuses

-- No refusal has number 0.
pub move_numbered : (c : Sheets) (long : ℕ) → Numbered (moving c long)
unfolding moving
move_numbered c long = bind_numbered (reading c) _ (reading-numbered c) (λ x. search (asks, room-asks, given-numbered, lit<))
