-- The promise of judging: the paper's values for what is answered. No list is lent.
use Rattle.std.specs.Prelude.{Result}
use Rattle.outcome.specs.Outcome.{Outcome, part}
use Rattle.outcome.specs.Refusing.{answered}
use Rattle.outcome.specs.declared.Refusal.{Refusal}
use Rattle.line_opinion.specs.Judging.{Opinion}
use Rattle.line_judge.specs.Opinions.{opinion_of}
use Rattle.line_judge.specs.declared.Opinion as said

abbrev pub judged_of : Result said.Opinion Refusal → Outcome Opinion
judged_of r = part opinion_of (answered r)
