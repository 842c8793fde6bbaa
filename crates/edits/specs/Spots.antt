-- Where each dwarf node stands: the postfix position of the formula node at which it was made, in compress that of the upper one.
use Rattle.std.specs.Prelude.{ℕ, ◌+◌, ◌≡◌, Bool, true, false, cond, List, [], ◌∷◌, ◌++◌, get_or}
use Rattle.formula.specs.Formula.{Formula, leaf, node, leaves}
use Rattle.contraction.specs.Records.{Kind, leaf as leaf_kind, E, R, S, C, Rec}
use Rattle.contraction.specs.Rounds.{made, planted, enough}
use Rattle.contraction.specs.Height.{worked}
use Rattle.edits.specs.Edits.{size}

-- The position of a formula's own code, the last one, where its first code stands at position p.
abbrev pub own : ℕ → Formula → ℕ
own p (leaf s) = p
own p (node o l r) = p + (size l + size r)

-- At each operand's own position `ups` has the position of the operation over it.
abbrev pub Ups : List ℕ → ℕ → Formula → Type 0
Ups ups p (leaf s) = Unit {0}
Ups ups p (node o l r) =
    (get_or ups (own p l) 0 ≡ p + (size l + size r)) × (get_or ups (own (p + size l) r) 0 ≡ p + (size l + size r))
    × Ups ups p l × Ups ups (p + size l) r

-- The leaves, numbered from n on, stand at their codes.
abbrev pub LeafSpots : List ℕ → ℕ → ℕ → Formula → Type 0
LeafSpots xs p n (leaf s) = get_or xs n 0 ≡ p
LeafSpots xs p n (node o l r) = LeafSpots xs p n l × LeafSpots xs (p + size l) (n + leaves l) r

-- The record is E or R.
abbrev pub works : Kind → Bool
works leaf_kind = false
works (E o) = true
works (R side o) = true
works S = false
works C = false

abbrev pub operates : Rec → Bool
operates r = works r.kind

-- E and R stand at the operation over where their first stands, S and C where their first stands.
abbrev pub spot : List ℕ → List ℕ → Rec → ℕ
spot ups xs r = cond (operates r) (get_or ups (get_or xs r.first 0) 0) (get_or xs r.first 0)

-- The operation over each code, by position; `top` is over the formula itself.
abbrev pub ups_of : ℕ → ℕ → Formula → List ℕ
ups_of top p (leaf s) = top ∷ []
ups_of top p (node o l r) =
    ups_of (p + (size l + size r)) p l ++ (ups_of (p + (size l + size r)) (p + size l) r ++ (top ∷ []))

-- The positions of the leaves, from left to right.
abbrev pub leaf_spots : ℕ → Formula → List ℕ
leaf_spots p (leaf s) = p ∷ []
leaf_spots p (node o l r) = leaf_spots p l ++ leaf_spots (p + size l) r

-- Where each dwarf node stands, in rising number.
abbrev pub spots : Formula → List ℕ
spots f = worked (spot (ups_of 0 0 f)) (leaf_spots 0 f) (made (enough f) (planted f 0) (leaves f))
