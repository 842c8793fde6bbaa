-- Two foundries on one sheet, document 02, K8: the order that mixes their toggle lists, a byte a turn, 0 for the first foundry and 1 for the second.
use Rattle.std.specs.Prelude.{ℕ, suc, Bool, true, false, ◌&&◌, List, [], ◌∷◌, eqb, leb}

-- Every entry names one of the two.
abbrev pub named : List ℕ → Bool
named [] = true
named (turn ∷ order) = leb turn 1 && named order

-- The turns that the order gives to a foundry.
abbrev pub turns : ℕ → List ℕ → ℕ
turns foundry [] = 0
turns foundry (turn ∷ order) = elim (eqb turn foundry) [ true ↦ suc (turns foundry order) | false ↦ turns foundry order ]

-- The order mixes lists of these lengths.
abbrev pub mixes : List ℕ → ℕ → ℕ → Bool
mixes order first second = named order && eqb (turns 0 order) first && eqb (turns 1 order) second
