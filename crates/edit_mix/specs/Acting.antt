-- What is kept while edits and toggles act: those that are left decide the answers.
use Rattle.std.specs.Prelude.{ℕ, ◌+◌, ◌-◌, ◌<◌, ◌≤◌, ◌≡◌, List, [], length, get_or, take, drop}
use Rattle.std.proofs.lemmas.List.Edits.{sets}
use Rattle.formula.specs.Formula.{Formula}
use Rattle.formula.specs.States.{toggled_by}
use Rattle.contraction.specs.Rounds.{dwarf}
use Rattle.contraction.specs.Height.{last}
use Rattle.contraction.specs.Entries.{recs}
use Rattle.labels.specs.Labels.{labels}
use Rattle.labels.specs.Linked.{Chains}
use Rattle.labels.specs.declared.Size.{Size}
use Rattle.toggle_passes.specs.Reworking.{steps}
use Rattle.toggles.specs.Toggles.{toggle}
use Rattle.toggles.specs.Flipping.{Toggles}
use Rattle.toggle_run.specs.Ran.{ToggleRoom}
use Rattle.edit_moments.specs.Edits.{edited_by, edit_counts}
use Rattle.edit_moments.specs.Waiting.{Desk, waiting, Plan, At}
use Rattle.edit_mix.specs.declared.Toggled.{Toggled}
use Rattle.edit_mix.specs.Edits.{roots_after, counts_after}

abbrev pub plan : Formula → List ℕ → List ℕ → Plan
plan f toggles lent = record { formula = f; toggles = toggles; lent = lent }

-- Toggle i is there to act,
pub record CanToggle (rules ks fs xs : List ℕ) (size : Size) (links ls toggles : List ℕ) (i : ℕ) : Type 0 where
  pub can : Toggles rules ks fs xs size.leaves size.nodes links ls (get_or toggles i 0)
  pub here : i < length toggles
  pub some : 0 < size.nodes
  pub room : size.nodes ≤ 3072

-- and it has acted: its count, and the root.
pub record ToggleDone (ks fs xs : List ℕ) (size : Size) (toggles : List ℕ) (i : ℕ) (ls ls' : List ℕ) (r : Toggled) : Type 0 where
  pub long : length ls' ≡ 3072
  pub is : steps (take size.nodes ls') r.count ≡ toggle (recs ks fs xs 0 size.nodes) (get_or toggles i 0) (take size.nodes ls)
  pub root_is : r.root ≡ last (take size.nodes ls')

-- After i toggles: the roots and counts that are left decide the rest of both lists.
pub record Told (d : Desk) (f : Formula) (toggles : List ℕ) (i : ℕ) (roots₀ counts₀ roots counts : List ℕ) : Type 0 where
  pub roots_so : sets roots₀ 0 (roots_after f (waiting d 0) [] toggles) ≡ sets roots i (roots_after f (waiting d 0) (take i toggles) (drop i toggles))
  pub counts_so : sets counts₀ 0 (counts_after f (waiting d 0) [] toggles) ≡ sets counts i (counts_after f (waiting d 0) (take i toggles) (drop i toggles))

-- Of j acts, an edit or a toggle each, k were edits.
pub data CanAct (d : Desk) (toggles : List ℕ) (j k : ℕ) (ks ls roots counts edits : List ℕ) : Type 0 where
  can_act : (f : Formula) (lent : List ℕ) → At d (plan f toggles lent) (j - k) k ks ls edits → Chains ks d.firsts d.seconds d.size.leaves d.size.nodes d.links
      → ToggleRoom toggles roots counts → k ≤ j → j - k ≤ length toggles
      → CanAct d toggles j k ks ls roots counts edits

-- Another is done, and r were edits.
pub data Acted (d : Desk) (toggles : List ℕ) (j k r : ℕ) (ks ls roots counts edits ks' ls' roots' counts' edits' : List ℕ) : Type 0 where
  has_acted : r ≤ j + 1 → j + 1 - r ≤ length toggles
      → ((f : Formula) (lent : List ℕ) → At d (plan f toggles lent) (j - k) k ks ls edits → At d (plan f toggles lent) (j + 1 - r) r ks' ls' edits')
      → ((f : Formula) (lent roots₀ counts₀ : List ℕ) → At d (plan f toggles lent) (j - k) k ks ls edits → Told d f toggles (j - k) roots₀ counts₀ roots counts
      → Told d f toggles (j + 1 - r) roots₀ counts₀ roots' counts')
      → Acted d toggles j k r ks ls roots counts edits ks' ls' roots' counts' edits'

-- All toggles and edits have acted.
pub record MixLeft (d : Desk) (f : Formula) (toggles roots₀ counts₀ edits₀ ls roots counts edits : List ℕ) : Type 0 where
  pub roots_are : roots ≡ sets roots₀ 0 (roots_after f (waiting d 0) [] toggles)
  pub counts_are : counts ≡ sets counts₀ 0 (counts_after f (waiting d 0) [] toggles)
  pub labels_are : take d.size.nodes ls ≡ labels (toggled_by toggles) (dwarf (edited_by (length toggles) (waiting d 0) f))
  pub edits_are : edits ≡ sets edits₀ 0 (edit_counts toggles f (waiting d 0))
