-- The nodes that a toggle reworks, by documents 01 and 02: those with a changed child, in rising number, and how many they are.
use Rattle.std.specs.Prelude.{ℕ, suc, Bool, true, false, not, ◌||◌, List, [], ◌∷◌, get_or, set, eqb}
use Rattle.formula.specs.States.{outside}
use Rattle.contraction.specs.Records.{Rec, children}
use Rattle.labels.specs.Labels.{label}

-- What a toggle leaves: the labels, and the number of nodes reworked.
pub record Steps : Type 0 where
  pub labels : List ℕ
  pub count : ℕ

abbrev pub steps : List ℕ → ℕ → Steps
steps ls n = record { labels = ls; count = n }

-- The label of one of the nodes cs has changed, where `old` are the labels before the toggle.
abbrev pub changed : List ℕ → List ℕ → List ℕ → Bool
changed old ls [] = false
changed old ls (c ∷ cs) = not (eqb (get_or ls c 0) (get_or old c 0)) || changed old ls cs

-- A node's label worked out. It is no leaf, so no shape's state matters.
abbrev pub reworked : List ℕ → Rec → ℕ
reworked ls r = label outside ls r

-- A toggle goes through the nodes in rising number, here from node j on, and reworks a node exactly when a child's label has changed.
-- The count is the number of nodes so reworked.
abbrev pub rework : List ℕ → List Rec → ℕ → List ℕ → Steps
rework old [] j ls = steps ls 0
rework old (r ∷ rs) j ls =
    elim (changed old ls (children r)) [
      | false ↦ rework old rs (suc j) ls
      | true ↦ let more = rework old rs (suc j) (set ls j (reworked ls r)) in steps more.labels (suc more.count)
    ]
