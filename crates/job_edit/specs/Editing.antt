-- A toggle run with edits: what the job gives for the sheets of a call, a toggle list, the edits in three lists, and answer lists of some lengths.
use Rattle.std.specs.Prelude.{ℕ, ◌&&◌, List, eqb, length}
use Rattle.outcome.specs.Outcome.{Outcome, given, need, room, ◌>>=◌, ◌>>◌}
use Rattle.formula.specs.Formula.{Formula, postfix}
use Rattle.contraction.specs.Rounds.{dwarf}
use Rattle.sheet.specs.Sheet.{Sheets}
use Rattle.accepting.specs.Accepting.{accepted}
use Rattle.toggles.specs.Named.{first_wrong}
use Rattle.edit_checking.specs.Fits.{first_unfit}
use Rattle.edit_moments.specs.Edits.{edits_of}
use Rattle.edit_mix.specs.Edits.{Answers, answers_of}

-- The answer lists that a caller lends.
pub record Lists : Type 0 where
  pub roots : List ℕ
  pub counts : List ℕ
  pub labels : List ℕ
  pub edit_counts : List ℕ

abbrev pub lists : List ℕ → List ℕ → List ℕ → List ℕ → Lists
lists rs cs ls es = record { roots = rs; counts = cs; labels = ls; edit_counts = es }

-- 9 for roots, counts, labels, and last the edits' counts.
unfoldable pub lending : Formula → List ℕ → List ℕ → List ℕ → List ℕ → Lists → Outcome Answers
lending f toggles moments positions codes lent = do
  room (length toggles) (length lent.roots)
  room (length toggles) (length lent.counts)
  room (length (dwarf f)) (length lent.labels)
  room (length moments) (length lent.edit_counts)
  given (answers_of f toggles (edits_of moments positions codes))

-- 13, edit lists of unequal length, place 0; 10 at the first shape number not below the number of names;
-- 20 at the first edit of a node that is no operation, to a code that is none, or whose moment falls or exceeds the toggles. Positions are postfix, whatever the edition.
unfoldable pub editing : Formula → ℕ → List ℕ → List ℕ → List ℕ → List ℕ → Lists → Outcome Answers
editing f names toggles moments positions codes lent = do
  need (eqb (length positions) (length moments) && eqb (length codes) (length moments)) 13 0
  need (eqb (first_wrong names toggles) (length toggles)) 10 (first_wrong names toggles)
  need (eqb (first_unfit (postfix f) (length toggles) 0 moments positions codes) (length moments)) 20 (first_unfit (postfix f) (length toggles) 0 moments positions codes)
  lending f toggles moments positions codes lent

-- The sheets and the height first.
unfoldable pub running_edited : Sheets → List ℕ → List ℕ → List ℕ → List ℕ → Lists → Outcome Answers
running_edited c toggles moments positions codes lent = do
  sheet ← accepted c
  editing sheet.formula (length sheet.names) toggles moments positions codes lent
