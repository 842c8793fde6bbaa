-- A toggle run with edits, document 02, K13: what it gives.
-- An edit acts after as many toggles as it says, edits of one moment in list order, after the root of the toggle before them is given.
use Rattle.std.specs.Prelude.{ℕ, List, [], ◌∷◌, ◌++◌, length}
use Rattle.formula.specs.Formula.{Formula, inside}
use Rattle.formula.specs.States.{toggled_by}
use Rattle.contraction.specs.Rounds.{dwarf}
use Rattle.labels.specs.Labels.{bit, labels}
use Rattle.toggles.specs.Toggles.{toggle}
use Rattle.edit_moments.specs.Edits.{Edit, edited_by, edit_counts}

-- A root for each toggle: the value of the formula as edited by then. `done` are the toggles before.
abbrev pub roots_after : Formula → List Edit → List ℕ → List ℕ → List ℕ
roots_after f es done [] = []
roots_after f es done (s ∷ ss) =
    bit (inside (edited_by (length done) es f) (toggled_by (done ++ (s ∷ [])))) ∷ roots_after f es (done ++ (s ∷ [])) ss

-- A count for each toggle: the nodes that it reworks in the tree of the formula as edited by then.
abbrev pub counts_after : Formula → List Edit → List ℕ → List ℕ → List ℕ
counts_after f es done [] = []
counts_after f es done (s ∷ ss) =
    let tree = dwarf (edited_by (length done) es f) in
    (toggle tree s (labels (toggled_by done) tree)).count ∷ counts_after f es (done ++ (s ∷ [])) ss

-- Answers, in order: a root for each toggle, a count for each toggle, the final label of every dwarf node, a count for each edit.
pub record Answers : Type 0 where
  pub roots : List ℕ
  pub counts : List ℕ
  pub final : List ℕ
  pub edit_counts : List ℕ

abbrev pub answers : List ℕ → List ℕ → List ℕ → List ℕ → Answers
answers rs cs ls es = record { roots = rs; counts = cs; final = ls; edit_counts = es }

-- The final labels are those of a build of the sheet as edited at the end, with the shapes then inside.
abbrev pub answers_of : Formula → List ℕ → List Edit → Answers
answers_of f toggles es =
    answers (roots_after f es [] toggles) (counts_after f es [] toggles) (labels (toggled_by toggles) (dwarf (edited_by (length toggles) es f))) (edit_counts toggles f es)
