-- What the functions of a run keep: the tables filled before its first toggle, the answers of the first toggles.
use Rattle.std.specs.Prelude.{ℕ, ◌≤◌, ◌≡◌, List, length, take}
use Rattle.outcome.specs.Lent.{filled}
use Rattle.contraction.specs.Records.{Rec}
use Rattle.contraction.specs.Entries.{recs}
use Rattle.formula.specs.States.{outside}
use Rattle.labels.specs.Labels.{labels}
use Rattle.labels.specs.Linked.{Rules, Ready}
use Rattle.toggles.specs.Toggles.{toggle_each}

-- All that a run fills before its first toggle.
pub record Tables (rules ks fs ss : List ℕ) (leaves nodes : ℕ) (ls links : List ℕ) : Type 0 where
  pub ruled : Rules rules
  pub ready : Ready ks fs ss leaves nodes links
  pub long : length ls ≡ 3072
  pub room : nodes ≤ 3072
  pub labels_are : take nodes ls ≡ labels outside (recs ks fs ss 0 nodes)

-- The answer lists and the labels after a run over records, from the labels ls on.
pub record RunDone (rs : List Rec) (ls ss roots counts ls' roots' counts' : List ℕ) : Type 0 where
  pub labels_are : ls' ≡ (toggle_each rs ls ss).final
  pub roots_are : roots' ≡ filled (toggle_each rs ls ss).roots roots
  pub counts_are : counts' ≡ filled (toggle_each rs ls ss).counts counts
