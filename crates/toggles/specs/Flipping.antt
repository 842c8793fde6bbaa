-- What the functions of a toggle keep: leaves are flipped, and the nodes above them are in a set.
use Rattle.std.specs.Prelude.{ℕ, ◌<◌, ◌≡◌, ◌&&◌, ◌||◌, List, eqb, ltb, length, take}
use Rattle.contraction.specs.Entries.{recs}
use Rattle.rising_set.specs.declared.RisingSet.{RisingSet}
use Rattle.rising_set.specs.Members.{in_set, all, Rising, Empty}
use Rattle.labels.specs.Linked.{Rules, Ready}
use Rattle.toggle_passes.specs.Upwards.{Due, Within}
use Rattle.toggles.specs.Toggles.{flip_leaves}

-- Nothing in the set, and the first word in hand.
pub record Bare (ws : List ℕ) (m : RisingSet) : Type 0 where
  pub rising : Rising ws m
  pub first : m.at ≡ 0
  pub empty : Empty (all ws m)

-- Node p put in, where there is such a node.
pub record AddedNode (nodes p : ℕ) (ws : List ℕ) (m : RisingSet) (ws' : List ℕ) (m' : RisingSet) : Type 0 where
  pub rising : Rising ws' m'
  pub first : m'.at ≡ 0
  pub so : (i : ℕ) → in_set (all ws' m') i ≡ (in_set (all ws m) i || (ltb p nodes && eqb i p))

-- What a toggle of shape s asks for.
pub record Toggles (rules ks fs ss : List ℕ) (leaves nodes : ℕ) (links ls : List ℕ) (s : ℕ) : Type 0 where
  pub ruled : Rules rules
  pub ready : Ready ks fs ss leaves nodes links
  pub long : length ls ≡ 3072
  pub shape : s < 256

-- The leaves of shape s are flipped, and the nodes above them are in the set.
pub record Flipped (ks fs ss : List ℕ) (leaves nodes s : ℕ) (old ls ws : List ℕ) (m : RisingSet) : Type 0 where
  pub labels_are : take nodes ls ≡ flip_leaves s (recs ks fs ss 0 nodes) 0 (take nodes old)
  pub long : length ls ≡ 3072
  pub rising : Rising ws m
  pub within : Within nodes (all ws m)
  pub due : Due ks fs ss nodes (take nodes old) ls (all ws m) leaves
