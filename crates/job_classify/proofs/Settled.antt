-- What the promise of classifying settles: two results that meet it are equal; it refuses exactly when the rules say, and then writes nothing.
use mathlib.Core.Path.{refl, sym, ◌∙◌}
use lib.ListN.{length}
use Rattle.outcome.specs.Outcome.{refused, unfit}
use Rattle.outcome.specs.Numbered.{Numbered}
use Rattle.outcome.specs.Settled.{Unique, Refusal, Refuses, Said}
use Rattle.outcome.proofs.NumberedLaws.{bind_numbered}
use Rattle.outcome.proofs.Settling.{OnSheets, on_sheets}
use Rattle.outcome.proofs.Judging.{answered_same}
use Rattle.outcome.specs.Refusing.{answered}
use Rattle.sheet.specs.Sheet.{Sheets, Sheet}
use Rattle.accepting.specs.Accepting.{accepted}
use Rattle.accepting.proofs.Accepted.{accepted-numbered}
use Rattle.lines.specs.Lines.{LineLists, AnswerLists}
use Rattle.lines.proofs.Numbered.{classified-numbered}
use Rattle.job_classify.specs.Classifying.{classifying}
use Rattle.job_classify.specs.Classified.{Classified}

-- as a promise on what the answer says
classify_settled : OnSheets (Said answered Classified) refused unfit
classify_settled =
    on_sheets (λ v. v) length (λ r q e. e) (λ k p. (refl, refl)) (λ o lent v after a. sym a.1.0 ∙ a.1.1.answer)
    (λ o lent v after a i. record { lines = a.1.1.lists.lines_list i; starts = a.1.1.lists.starts_list i; ends = a.1.1.lists.ends_list i; start_shapes = a.1.1.lists.start_shapes_list i; end_shapes = a.1.1.lists.end_shapes_list i })
    (λ k p lent. (refl, refl))

pub classify_unique : Unique Classified
classify_unique = λ o lent r q after other a b. (answered_same r q (a.answer ∙ sym b.answer), (classify_settled.own.unique o lent (answered r) (answered q) after other (r, (refl, a)) (q, (refl, b))).1)

pub classify_refusal : Refusal (Said answered Classified) refused refused
classify_refusal = classify_settled.own.refusal

pub classify_refuses : Refuses (Said answered Classified) refused refused
classify_refuses = classify_settled.own.refuses

-- and of the fittings sheet
pub classify_unfit : Refusal (Said answered Classified) unfit unfit
classify_unfit = classify_settled.fittings.refusal

pub classify_unfits : Refuses (Said answered Classified) unfit unfit
classify_unfits = classify_settled.fittings.refuses

-- No refusal has number 0.
pub classify_numbered : (s : Sheets) (c : LineLists) (lent : AnswerLists) → Numbered (classifying s c lent)
unfolding classifying
classify_numbered s c lent = bind_numbered (accepted s) _ (accepted-numbered s) (λ (x : Sheet). classified-numbered x.formula (length x.names) c lent)
