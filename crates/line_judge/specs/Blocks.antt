-- What is promised of the opinion.
use Rattle.std.specs.Prelude.{ℕ, ◌≡◌, Result, List}
use Rattle.outcome.specs.Outcome.{part}
use Rattle.outcome.specs.Refusing.{judged}
use Rattle.outcome.specs.declared.Fault.{Fault}
use Rattle.formula.specs.Formula.{Formula, postfix, Over}
use Rattle.lines.specs.Lines.{LineLists, AnswerLists, answer_lists, walls}
use Rattle.line_words.specs.Stretches.{StandFor}
use Rattle.line_words.specs.declared.Arranged.{Arranged}
use Rattle.line_opinion.specs.Judging.{TheirLists, theirs, opinion, judgement}
use Rattle.line_judge.specs.Opinions.{opinion_of}
use Rattle.line_judge.specs.declared.BlockWalls.{BlockWalls}
use Rattle.line_judge.specs.declared.Opinion as said

-- our own lists
abbrev pub own_lists : BlockWalls → AnswerLists
own_lists w = answer_lists w.lines w.starts w.ends w.start_shapes w.end_shapes

-- the opinion against the walls of whatever formula the table stands for
pub record OpinionFound (table : List ℕ) (arranged : Arranged) (names : ℕ) (c : LineLists) (t : TheirLists) (r : said.Opinion) : Type 0 where
  pub is : (f : Formula) → StandFor (postfix f) table arranged → Over names f → opinion_of r ≡ opinion (walls f names c) (theirs t)

-- of whatever formula the codes are
pub record OpinionGiven (codes : List ℕ) (names : ℕ) (c : LineLists) (t : TheirLists) (r : said.Opinion) : Type 0 where
  pub is : (f : Formula) → codes ≡ postfix f → Over names f → opinion_of r ≡ opinion (walls f names c) (theirs t)

-- the line job of judging
pub record JudgeDone (codes : List ℕ) (names : ℕ) (c : LineLists) (t : TheirLists) (r : Result said.Opinion Fault) : Type 0 where
  pub answered_so : (f : Formula) → codes ≡ postfix f → Over names f → part opinion_of (judged r) ≡ judgement f names c t
