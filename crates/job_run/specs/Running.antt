-- A toggle run: what the job gives for the sheets of a call, a toggle list, and answer lists of some lengths.
use Rattle.std.specs.Prelude.{ℕ, List, eqb, length}
use Rattle.outcome.specs.Outcome.{Outcome, given, need, room, ◌>>=◌, ◌>>◌}
use Rattle.formula.specs.Formula.{Formula}
use Rattle.formula.specs.States.{toggled_by}
use Rattle.contraction.specs.Rounds.{dwarf}
use Rattle.sheet.specs.Sheet.{Sheets}
use Rattle.accepting.specs.Accepting.{accepted}
use Rattle.labels.specs.Labels.{labels as labels_of}
use Rattle.toggles.specs.Toggles.{Answers, answers, toggle_run}
use Rattle.toggles.specs.Demand.{roots as roots_of}
use Rattle.toggles.specs.Named.{first_wrong}

-- What a run answers: a root bit for each toggle, by the formula and the oddness of the toggles so far;
-- a count for each toggle, the number of nodes reworked; the final label of every dwarf node, worked out afresh from the shapes then inside.
abbrev pub answers_of : Formula → List ℕ → Answers
answers_of f toggles = answers (roots_of f toggles) (toggle_run f toggles).counts (labels_of (toggled_by toggles) (dwarf f))

-- 10 at the first shape number not below the number of names; then 9 for roots, counts, labels.
unfoldable pub toggling : Formula → ℕ → List ℕ → ℕ → ℕ → ℕ → Outcome Answers
toggling f names toggles roots counts labels = do
  need (eqb (first_wrong names toggles) (length toggles)) 10 (first_wrong names toggles)
  room (length toggles) roots
  room (length toggles) counts
  room (length (dwarf f)) labels
  given (answers_of f toggles)

-- The sheets and the height first.
unfoldable pub running : Sheets → List ℕ → ℕ → ℕ → ℕ → Outcome Answers
running c toggles roots counts labels = do
  sheet ← accepted c
  toggling sheet.formula (length sheet.names) toggles roots counts labels
