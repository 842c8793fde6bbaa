-- The promise of the line job: the answer and each lent list, for success and refusal.
use Rattle.std.specs.Prelude.{ℕ, ◌≡◌, Result, List, length}
use Rattle.outcome.specs.Outcome.{Outcome, part}
use Rattle.outcome.specs.Refusing.{judged}
use Rattle.outcome.specs.declared.Fault.{Fault}
use Rattle.formula.specs.Formula.{Formula, postfix, Over}
use Rattle.lines.specs.Lines.{LineLists, AnswerLists, Wall, classified}
use Rattle.lines.specs.Given.{WallLists}

pub record LinesAnswered (o : Outcome (List Wall)) (lent : AnswerLists) (r : Result ℕ Fault) (after : AnswerLists) : Type 0 where
  pub answer : judged r ≡ part length o
  pub lists : WallLists o lent after

-- Of whatever formula the codes are.
pub record JobDone (codes : List ℕ) (names : ℕ) (c : LineLists) (lent : AnswerLists) (r : Result ℕ Fault) (after : AnswerLists) : Type 0 where
  pub answered_so : (f : Formula) → codes ≡ postfix f → Over names f → LinesAnswered (classified f names c lent) lent r after
