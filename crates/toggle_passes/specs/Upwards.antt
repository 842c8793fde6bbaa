-- What the passes upwards keep: one label alone has changed, or the nodes with a changed child are in a set.
use Rattle.std.specs.Prelude.{ℕ, ◌<◌, ◌≤◌, ◌≡◌, true, false, not, ◌&&◌, ◌||◌, List, eqb, ltb, length, get_or, set}
use Rattle.contraction.specs.Records.{children}
use Rattle.contraction.specs.Entries.{rec_at}
use Rattle.rising_set.specs.declared.RisingSet.{RisingSet}
use Rattle.rising_set.specs.Members.{in_set, all, Rising, Lowest}
use Rattle.labels.specs.Linked.{Rules, Linked}
use Rattle.toggle_passes.specs.Reworking.{changed, reworked}

-- The labels ls of the nodes differ from those before, `old`, at node c and nowhere else.
pub record Alone (nodes : ℕ) (old ls : List ℕ) (c : ℕ) : Type 0 where
  pub differs : get_or ls c 0 ≡ get_or old c 0 → ⊥
  pub elsewhere : (i : ℕ) → i < nodes → (i ≡ c → ⊥) → get_or ls i 0 ≡ get_or old i 0

-- From node j on the labels are those before, and the nodes with a changed child are in the set.
pub record Due (ks fs ss : List ℕ) (nodes : ℕ) (old ls ms : List ℕ) (j : ℕ) : Type 0 where
  pub inside : j ≤ nodes
  pub kept : (i : ℕ) → j ≤ i → i < nodes → get_or ls i 0 ≡ get_or old i 0
  pub low : (k : ℕ) → k < j → in_set ms k ≡ false
  pub dues : (k : ℕ) → j ≤ k → k < nodes → changed old ls (children (rec_at ks fs ss k)) ≡ in_set ms k

-- The numbers of a set are of nodes.
pub record Within (nodes : ℕ) (ms : List ℕ) : Type 0 where
  pub node : (k : ℕ) → k < 3072 → in_set ms k ≡ true → k < nodes

-- What goes up from one node asks for,
pub record Climbs (rules ks fs ss : List ℕ) (leaves nodes : ℕ) (ps ls : List ℕ) (node : ℕ) : Type 0 where
  pub ruled : Rules rules
  pub linked : Linked ks fs ss leaves nodes ps
  pub long : length ls ≡ 3072
  pub inside : node < nodes

-- and what goes up from the nodes of a set.
pub record Settles (rules ks fs ss : List ℕ) (leaves nodes : ℕ) (ps ls ws : List ℕ) (m : RisingSet) : Type 0 where
  pub ruled : Rules rules
  pub linked : Linked ks fs ss leaves nodes ps
  pub long : length ls ≡ 3072
  pub rising : Rising ws m
  pub within : Within nodes (all ws m)

-- Node k is one of the nodes and the lowest of the set, and the node above it has a larger number.
pub record Ripe (nodes k : ℕ) (ps ws : List ℕ) (m : RisingSet) : Type 0 where
  pub room : nodes ≤ 3072
  pub node : k < nodes
  pub rising : Rising ws m
  pub lowest : Lowest m k
  pub rises : k < get_or ps k 0

-- Node k is reworked and taken out; where its label was another, the node above it is put in.
pub record Settled (ks fs ss : List ℕ) (nodes : ℕ) (ps : List ℕ) (k : ℕ) (ls ws : List ℕ) (m : RisingSet) (ls' ws' : List ℕ) (m' : RisingSet) : Type 0 where
  pub labels_are : ls' ≡ set ls k (reworked ls (rec_at ks fs ss k))
  pub rising : Rising ws' m'
  pub members_are : (i : ℕ) → in_set (all ws' m') i
      ≡ (in_set (all ws m) i && not (eqb i k) || (not (eqb (reworked ls (rec_at ks fs ss k)) (get_or ls k 0)) && (ltb (get_or ps k 0) nodes && eqb i (get_or ps k 0))))
