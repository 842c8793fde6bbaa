-- What writing the walls keeps from the first block to the last.
use Rattle.std.specs.Prelude.{ℕ, ◌≡◌, List}
use Rattle.formula.specs.Formula.{Formula, postfix, Over}
use Rattle.lines.specs.Lines.{LineLists, AnswerLists, walls}
use Rattle.line_words.specs.Stretches.{StandFor}
use Rattle.line_words.specs.declared.Arranged.{Arranged}
use Rattle.line_writing.specs.Writing.{Written}

-- the walls of whatever formula the table stands for
pub record WallsWritten (table : List ℕ) (arranged : Arranged) (names : ℕ) (c : LineLists) (lent : AnswerLists) (k : ℕ) (after : AnswerLists) : Type 0 where
  pub written : (f : Formula) → StandFor (postfix f) table arranged → Over names f → Written (walls f names c) lent k after

-- of whatever formula the codes are
pub record WallsGiven (codes : List ℕ) (names : ℕ) (c : LineLists) (lent : AnswerLists) (k : ℕ) (after : AnswerLists) : Type 0 where
  pub written : (f : Formula) → codes ≡ postfix f → Over names f → Written (walls f names c) lent k after
