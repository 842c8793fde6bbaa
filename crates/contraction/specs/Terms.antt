-- The words of the theorems on the contracted tree: whose child a node is, and a working tree of more than one node.
use Rattle.std.specs.Prelude.{ℕ, suc, ◌+◌, ◌<◌, List, [], ◌∷◌}
use Rattle.formula.specs.States.{times}
use Rattle.contraction.specs.Records.{Rec, children}
use Rattle.contraction.specs.Rounds.{Work, tip, one, two}

-- P holds of each record and its number, from n on.
abbrev pub Each : (ℕ → Rec → Type 0) → ℕ → List Rec → Type 0
Each P n [] = Unit {0}
Each P n (r ∷ rs) = P n r × Each P (suc n) rs

abbrev pub AllBelow : ℕ → List ℕ → Type 0
AllBelow n [] = Unit {0}
AllBelow n (c ∷ cs) = (c < n) × AllBelow n cs

-- Children have smaller numbers.
abbrev pub ChildrenBelow : ℕ → Rec → Type 0
ChildrenBelow n r = AllBelow n (children r)

-- How often node c is a child in a record, and in a list of records.
abbrev pub refs : ℕ → Rec → ℕ
refs c r = times c (children r)

abbrev pub uses : ℕ → List Rec → ℕ
uses c [] = 0
uses c (r ∷ rs) = refs c r + uses c rs

-- The working tree is no single leaf.
abbrev pub Many : Work → Type 0
Many (tip d) = ⊥
Many (one d c) = Unit {0}
Many (two o l r) = Unit {0}
