-- The height of a dwarf tree: the longest path in steps. A single node has height 0.
use Rattle.std.specs.Prelude.{ℕ, suc, max, List, [], ◌∷◌, ◌++◌, get_or}
use Rattle.contraction.specs.Records.{Rec, children}

-- Numbers worked out by one rule for the nodes in rising order, each from those of the nodes before it.
abbrev pub worked : (List ℕ → Rec → ℕ) → List ℕ → List Rec → List ℕ
worked by xs [] = xs
worked by xs (r ∷ rs) = worked by (xs ++ (by xs r ∷ [])) rs

abbrev pub last : List ℕ → ℕ
last [] = 0
last (x ∷ []) = x
last (x ∷ y ∷ ys) = last (y ∷ ys)

-- The longest path down through one of the nodes cs: a step to it, and its own longest path.
abbrev pub longest : List ℕ → List ℕ → ℕ
longest xs [] = 0
longest xs (c ∷ cs) = max (suc (get_or xs c 0)) (longest xs cs)

abbrev pub path : List ℕ → Rec → ℕ
path xs r = longest xs (children r)

-- The root is the last node.
abbrev pub height : List Rec → ℕ
height rs = last (worked path [] rs)
