-- Rounds of contraction: what each step makes, the tree that it leaves, and the dwarf tree of a formula.
-- A step's records stand in postfix order of the nodes at which they are made: those of the left child, of the right child, of the node.
-- So a node made by a step has the number that the step began with and, added to it, how many records stand before its own.
use Rattle.std.specs.Prelude.{ℕ, zero, suc, ◌+◌, Bool, true, false, List, [], ◌∷◌, ◌++◌, length}
use Rattle.std.proofs.Math.Option.{Option, none, some}
use Rattle.formula.specs.Formula.{Op, Formula, leaf, node, leaves}
use Rattle.contraction.specs.Records.{left, right, Rec, leaf_rec, E_rec, R_rec, S_rec, C_rec}

-- The tree between the steps. A leaf and a one-child node have a dwarf root each, which is its number.
pub data Work : Type 0 where
  tip : ℕ → Work
  one : ℕ → Work → Work
  two : Op → Work → Work → Work

abbrev pub nodes : Work → ℕ
nodes (tip d) = 1
nodes (one d c) = suc (nodes c)
nodes (two o l r) = suc (nodes l + nodes r)

-- The dwarf root of a leaf; none where the node is no leaf.
abbrev pub tip_of : Work → Option ℕ
tip_of (tip d) = some d
tip_of (one d c) = none
tip_of (two o l r) = none

-- ---- Rake, judged on the tree as the round found it

-- What it makes at a one-child node: S over its own dwarf root and the leaf's.
abbrev pub rake_one : ℕ → Option ℕ → List Rec
rake_one d (some v) = S_rec d v ∷ []
rake_one d none = []

-- What it makes at a two-child node: E over two leaf children, R over the one leaf child.
abbrev pub rake_two : Op → Option ℕ → Option ℕ → List Rec
rake_two o (some a) (some b) = E_rec o a b ∷ []
rake_two o (some a) none = R_rec left o a ∷ []
rake_two o none (some b) = R_rec right o b ∷ []
rake_two o none none = []

abbrev pub rakes : Work → List Rec
rakes (tip d) = []
rakes (one d c) = rakes c ++ rake_one d (tip_of c)
rakes (two o l r) = rakes l ++ (rakes r ++ rake_two o (tip_of l) (tip_of r))

-- What it leaves there: n is the number of the node that it makes, and c, l, r are the children after the step.
abbrev pub left_one : ℕ → Option ℕ → Work → ℕ → Work
left_one d (some v) c n = tip n
left_one d none c n = one d c

abbrev pub left_two : Op → Option ℕ → Option ℕ → Work → Work → ℕ → Work
left_two o (some a) (some b) l r n = tip n
left_two o (some a) none l r n = one n r
left_two o none (some b) l r n = one n l
left_two o none none l r n = two o l r

-- The tree after rake, where n is the next dwarf number.
abbrev pub raked : Work → ℕ → Work
raked (tip d) n = tip d
raked (one d c) n = left_one d (tip_of c) (raked c n) (n + length (rakes c))
raked (two o l r) n =
    left_two o (tip_of l) (tip_of r) (raked l n) (raked r (n + length (rakes l))) (n + length (rakes l) + length (rakes r))

-- ---- Compress: in each longest chain of one-child nodes, pair from the top; an odd last one waits

abbrev pub compresses : Work → List Rec
compresses (tip d) = []
compresses (one u (tip d)) = []
compresses (one u (one d c)) = compresses c ++ (C_rec u d ∷ [])
compresses (one u (two o l r)) = compresses (two o l r)
compresses (two o l r) = compresses l ++ compresses r

-- The tree after compress, where n is the next dwarf number. A pair becomes one node with the lower one's child.
abbrev pub compressed : Work → ℕ → Work
compressed (tip d) n = tip d
compressed (one u (tip d)) n = one u (tip d)
compressed (one u (one d c)) n = one (n + length (compresses c)) (compressed c n)
compressed (one u (two o l r)) n = one u (compressed (two o l r) n)
compressed (two o l r) n = two o (compressed l n) (compressed r (n + length (compresses l)))

-- ---- A round: rake and then compress

abbrev pub round_makes : Work → ℕ → List Rec
round_makes w n = rakes w ++ compresses (raked w n)

abbrev pub round_leaves : Work → ℕ → Work
round_leaves w n = compressed (raked w n) (n + length (rakes w))

abbrev pub one_remains : Work → Bool
one_remains (tip d) = true
one_remains (one d c) = false
one_remains (two o l r) = false

-- While more than one node remains, do a round: what all of them make, and how many they are. `most` bounds their number.
abbrev pub made : ℕ → Work → ℕ → List Rec
made zero w n = []
made (suc most) w n =
    elim (one_remains w) [ true ↦ [] | false ↦ round_makes w n ++ made most (round_leaves w n) (n + length (round_makes w n)) ]

abbrev pub rounds : ℕ → Work → ℕ → ℕ
rounds zero w n = 0
rounds (suc most) w n =
    elim (one_remains w) [ true ↦ 0 | false ↦ suc (rounds most (round_leaves w n) (n + length (round_makes w n))) ]

-- ---- The dwarf tree of a formula

-- Leaves get dwarf nodes n, n + 1, .. from left to right.
abbrev pub planted : Formula → ℕ → Work
planted (leaf s) n = tip n
planted (node o l r) n = two o (planted l n) (planted r (n + leaves l))

abbrev pub leaf_recs : Formula → List Rec
leaf_recs (leaf s) = leaf_rec s ∷ []
leaf_recs (node o l r) = leaf_recs l ++ leaf_recs r

-- As many rounds as nodes are enough, since each leaves fewer (`proofs/Rounds.antt`).
abbrev pub enough : Formula → ℕ
enough f = nodes (planted f 0)

abbrev pub dwarf : Formula → List Rec
dwarf f = leaf_recs f ++ made (enough f) (planted f 0) (leaves f)

abbrev pub rounds_of : Formula → ℕ
rounds_of f = rounds (enough f) (planted f 0) (leaves f)
