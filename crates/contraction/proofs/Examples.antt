-- One step of a round on small trees, computed: a leaf that rake makes waits, and chains are paired from the top.
use mathlib.Core.Path.{◌≡◌, refl}
use mathlib.Core.List.{[], ◌∷◌}
use Rattle.formula.specs.Formula.{union, difference}
use Rattle.contraction.specs.Records.{right, E_rec, R_rec, C_rec}
use Rattle.contraction.specs.Rounds.{tip, one, two, rakes, raked, compresses, compressed}

-- A leaf that this step makes is not raked in it: the node above it has the one leaf child that the round found.
made-leaf_waits : (rakes (two difference (two union (tip 0) (tip 1)) (tip 2)) ≡ E_rec union 0 1 ∷ R_rec right difference 2 ∷ [])
    × (raked (two difference (two union (tip 0) (tip 1)) (tip 2)) 3 ≡ one 4 (tip 3))
made-leaf_waits = (refl, refl)

-- Pairs are made from the top: of three in a chain the lowest waits. The lower of two pairs has the smaller number.
chains : (compresses (one 5 (one 6 (one 7 (tip 0)))) ≡ C_rec 5 6 ∷ [])
    × (compressed (one 5 (one 6 (one 7 (tip 0)))) 9 ≡ one 9 (one 7 (tip 0)))
    × (compresses (one 5 (one 6 (one 7 (one 8 (tip 0))))) ≡ C_rec 7 8 ∷ C_rec 5 6 ∷ [])
    × (compressed (one 5 (one 6 (one 7 (one 8 (tip 0))))) 9 ≡ one 10 (one 9 (tip 0)))
chains = (refl, refl, refl, refl)
