-- What a run leaves in the lent lists, and the room that it needs.
use Rattle.std.specs.Prelude.{ℕ, ◌<◌, ◌≤◌, ◌≡◌, List, length, get_or}
use Rattle.outcome.specs.Lent.{filled}
use Rattle.formula.specs.Formula.{Formula}
use Rattle.formula.specs.States.{toggled_by}
use Rattle.contraction.specs.Rounds.{dwarf}
use Rattle.labels.specs.Labels.{labels as labels_of}
use Rattle.labels.specs.Arrays.{Tree}
use Rattle.toggles.specs.Toggles.{toggle_run}
use Rattle.toggles.specs.Demand.{roots as roots_of}

-- Every toggle is one of 256 shapes, and there is room for a root and a count for each.
pub record ToggleRoom (ss roots counts : List ℕ) : Type 0 where
  pub named : (i : ℕ) → get_or ss i 0 < 256
  pub for_roots : length ss ≤ length roots
  pub for_counts : length ss ≤ length counts

-- What a run on arrays asks for: a dwarf tree in them, room for the toggles' answers, and room for the labels.
pub record RunRoom (ks fs ss : List ℕ) (leaves nodes : ℕ) (toggles roots counts labels : List ℕ) : Type 0 where
  pub tree : Tree ks fs ss leaves nodes
  pub answers : ToggleRoom toggles roots counts
  pub for_labels : nodes ≤ length labels

-- A root bit for each toggle, the formula's value; a count for each toggle, the number of nodes reworked;
-- the final label of every dwarf node, worked out afresh from the shapes then inside.
pub record TreeRun (f : Formula) (ss roots counts labels roots' counts' labels' : List ℕ) : Type 0 where
  pub roots_are : roots' ≡ filled (roots_of f ss) roots
  pub counts_are : counts' ≡ filled (toggle_run f ss).counts counts
  pub labels_are : labels' ≡ filled (labels_of (toggled_by ss) (dwarf f)) labels
