-- What the promise of judging settles: two answers that meet it are equal, and it refuses exactly when the rules say.
use Prim.Native.Nat.{ℕ}
use mathlib.Core.Path.{◌≡◌, refl, sym, ap, ◌∙◌}
use lib.ListN.{length}
use Rattle.std.specs.Prelude.{Result}
use Rattle.outcome.specs.Outcome.{Outcome, given, refused, unfit, part}
use Rattle.outcome.specs.Refusing.{answered}
use Rattle.outcome.specs.declared.Refusal.{Refusal}
use Rattle.outcome.proofs.Questions.{part-refused, part-unfit}
use Rattle.outcome.proofs.Judging.{answered_same}
use Rattle.line_judge.specs.Opinions.{opinion_of}
use Rattle.line_judge.specs.declared.Opinion as said
use Rattle.line_judge.specs.declared.Opinion.TheVariants as saying
use Rattle.outcome.specs.Numbered.{Numbered}
use Rattle.outcome.proofs.NumberedLaws.{bind_numbered}
use Rattle.sheet.specs.Sheet.{Sheets, Sheet}
use Rattle.accepting.specs.Accepting.{accepted}
use Rattle.accepting.proofs.Accepted.{accepted-numbered}
use Rattle.lines.specs.Lines.{LineLists}
use Rattle.line_opinion.specs.Judging.{TheirLists, Opinion, right, wrong_at}
use Rattle.line_opinion.proofs.Numbered.{judgement-numbered}
use Rattle.job_judge.specs.Judging.{judging}
use Rattle.job_judge.specs.Judged.{judged_of}

abbrev opinion_by : Opinion → said.Opinion
opinion_by right = saying.Right
opinion_by (wrong_at index) = saying.Wrong index

opinion_known : (o : said.Opinion) → opinion_by (opinion_of o) ≡ o
opinion_known saying.Right = refl
opinion_known (saying.Wrong index) = refl

part_known : (o : Outcome said.Opinion) → part opinion_by (part opinion_of o) ≡ o
part_known (given x) = ap given (opinion_known x)
part_known (refused number place) = refl
part_known (unfit number place) = refl

judged_of-same : (r q : Result said.Opinion Refusal) → judged_of r ≡ judged_of q → r ≡ q
judged_of-same r q e = answered_same r q (sym (part_known (answered r)) ∙ ap (part opinion_by) e ∙ part_known (answered q))

module _ (o : Outcome Opinion) where
  pub judge_unique : (r q : Result said.Opinion Refusal) → judged_of r ≡ o → judged_of q ≡ o → r ≡ q
  judge_unique r q a b = judged_of-same r q (a ∙ sym b)

  -- what an answer says is a refusal only where the outcome is
  module _ (number place : ℕ) (r : Result said.Opinion Refusal) (says : judged_of r ≡ o) where
    pub judge_refusal : answered r ≡ refused number place → o ≡ refused number place
    judge_refusal is = sym says ∙ ap (part opinion_of) is

    pub judge_refuses : o ≡ refused number place → answered r ≡ refused number place
    judge_refuses is = part-refused opinion_of (answered r) number place (sym (says ∙ is))

    -- and of the fittings sheet
    pub judge_unfit : answered r ≡ unfit number place → o ≡ unfit number place
    judge_unfit is = sym says ∙ ap (part opinion_of) is

    pub judge_unfits : o ≡ unfit number place → answered r ≡ unfit number place
    judge_unfits is = part-unfit opinion_of (answered r) number place (sym (says ∙ is))

-- No refusal has number 0.
pub judge_numbered : (s : Sheets) (c : LineLists) (t : TheirLists) → Numbered (judging s c t)
unfolding judging
judge_numbered s c t = bind_numbered (accepted s) _ (accepted-numbered s) (λ (x : Sheet). judgement-numbered x.formula (length x.names) c t)
