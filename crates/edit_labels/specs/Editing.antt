-- An edit by request K2's rule: its own node and every node of which a child's label has changed are reworked, in rising number.
use Rattle.std.specs.Prelude.{ℕ, suc, ◌≡◌, true, false, ◌||◌, List, [], ◌∷◌, get_or, set, eqb}
use Rattle.contraction.specs.Records.{Rec, leaf_rec, children, over}
use Rattle.toggle_passes.specs.Reworking.{Steps, steps, changed, reworked}

-- The nodes in rising number, here from node j on, where e is the edit's own node and `old` are the labels before the edit.
-- The count is the number of nodes so reworked.
abbrev pub sweep : ℕ → List ℕ → List Rec → ℕ → List ℕ → Steps
sweep e old [] j ls = steps ls 0
sweep e old (r ∷ rs) j ls =
    elim (eqb j e || changed old ls (children r)) [
      | false ↦ sweep e old rs (suc j) ls
      | true ↦ let more = sweep e old rs (suc j) (set ls j (reworked ls r)) in steps more.labels (suc more.count)
    ]

-- The labels after an edit whose node is e, and the number of labels reworked; the records are those of the sheet as edited.
abbrev pub edit : List Rec → ℕ → List ℕ → Steps
edit rs e ls = sweep e ls rs 0 ls

-- Node n is e, or above it.
pub data Above (rs : List Rec) (e : ℕ) : ℕ → Type 0 where
  own : Above rs e e
  up : (c n : ℕ) → Above rs e c → over c (get_or rs n (leaf_rec 0)) ≡ true → Above rs e n
