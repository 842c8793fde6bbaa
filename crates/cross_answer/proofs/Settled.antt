-- What the promise of a crossing job settles: two results that meet it are equal; it refuses exactly when the rules say, and then writes
-- nothing.
use mathlib.Core.Path.{refl, sym, ◌∙◌}
use Rattle.outcome.specs.Outcome.{Outcome, refused, part}
use Rattle.outcome.specs.Settled.{Unique, Refusal, Refuses, Said}
use Rattle.outcome.specs.Refusing.{judged}
use Rattle.outcome.proofs.Questions.{part-refused}
use Rattle.outcome.proofs.Settling.{Settled, settled}
use Rattle.outcome.proofs.Judging.{judged_same}
use Rattle.cross_answer.specs.Answer.{counts_of, Crossed}
use Rattle.cross_answer.specs.declared.Counts.{Counts}

crossed-settled : Settled (Said judged Crossed) refused refused
crossed-settled =
    settled (λ (v : Outcome Counts). v) (part counts_of) (λ r q e. e) (λ o lent v after s. sym s.1.0 ∙ s.1.1.answer)
    (λ o lent v after s i. record { starts = s.1.1.lists.starts_list i; positions = s.1.1.lists.positions_list i; shapes = s.1.1.lists.shapes_list i })
    (λ k p. refl) (part-refused counts_of) (λ k p lent. refl)

pub crossed_unique : Unique Crossed
crossed_unique o lent r q after other a b =
    let l = a.lists in
    let m = b.lists in (
      judged_same r q (a.answer ∙ sym b.answer),
      λ i. record { starts = (l.starts_list ∙ sym m.starts_list) i; positions = (l.positions_list ∙ sym m.positions_list) i; shapes = (l.shapes_list ∙ sym m.shapes_list) i },
    )

-- what an answer says is a refusal only where the outcome is
pub crossed_refusal : Refusal (Said judged Crossed) refused refused
crossed_refusal = crossed-settled.refusal

pub crossed-refuses : Refuses (Said judged Crossed) refused refused
crossed-refuses = crossed-settled.refuses
