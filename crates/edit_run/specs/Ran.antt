-- What a run with edits leaves in the lent lists, and what it asks for.
use Rattle.std.specs.Prelude.{ℕ, ◌<◌, ◌≤◌, ◌≡◌, List, length, get_or}
use Rattle.outcome.specs.Lent.{filled}
use Rattle.formula.specs.Formula.{first_operation, Formula}
use Rattle.toggle_run.specs.Ran.{ToggleRoom}
use Rattle.edit_places.specs.Places.{Built, Buildable}
use Rattle.edit_moments.specs.Edits.{edits_of}
use Rattle.edit_moments.specs.Listed.{Rises, Listed}
use Rattle.edit_mix.specs.Edits.{Answers, answers_of}

-- What a run with edits on arrays asks for: a formula's codes and its dwarf tree in them, edits that fit, and room for each answer.
pub record EditFits (formula : List ℕ) (ks fs ss : List ℕ) (leaves nodes : ℕ) (toggles ms ps cs roots counts labels edit_counts : List ℕ) : Type 0 where
  pub formula_few : length formula < 2048
  pub built : Buildable formula ks fs ss leaves nodes
  pub listed : Listed ms ps cs (length toggles)
  pub rises : Rises 0 (edits_of ms ps cs)
  pub operated : (k : ℕ) → k < length ms → first_operation ≤ get_or formula (get_or ps k 0) 0
  pub answers : ToggleRoom toggles roots counts
  pub for_labels : nodes ≤ length labels
  pub for_edits : length ms ≤ length edit_counts

pub data EditRoom (formula : List ℕ) (ks fs ss : List ℕ) (leaves nodes : ℕ) (toggles ms ps cs roots counts labels edit_counts : List ℕ) : Type 0 where
  edit-room : EditFits formula ks fs ss leaves nodes toggles ms ps cs roots counts labels edit_counts
      → EditRoom formula ks fs ss leaves nodes toggles ms ps cs roots counts labels edit_counts

-- The answers are those of the formula.
pub record EditedRun (a : Answers) (roots counts labels edit_counts roots' counts' labels' edit_counts' : List ℕ) : Type 0 where
  pub roots_are : roots' ≡ filled a.roots roots
  pub counts_are : counts' ≡ filled a.counts counts
  pub labels_are : labels' ≡ filled a.final labels
  pub edit_counts_are : edit_counts' ≡ filled a.edit_counts edit_counts

pub record EditedRuns (formula : List ℕ) (ks fs ss : List ℕ) (leaves nodes : ℕ) (toggles ms ps cs roots counts labels edit_counts roots' counts' labels' edit_counts' : List ℕ) : Type 0 where
  pub so : (f : Formula) → Built formula ks fs ss leaves nodes f
      → EditedRun (answers_of f toggles (edits_of ms ps cs)) roots counts labels edit_counts roots' counts' labels' edit_counts'
