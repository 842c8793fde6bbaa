-- The record of a dwarf node: kind, first, second.
use Rattle.std.specs.Prelude.{ℕ, ◌+◌, Bool, true, false, ◌||◌, List, [], ◌∷◌, map, eqb}
use Rattle.formula.specs.Formula.{Op, index}

-- Which operand was raked.
pub data Side : Type 0 where
  left right : Side

pub data Kind : Type 0 where
  leaf : Kind
  E : Op → Kind
  R : Side → Op → Kind
  S C : Kind

-- Kind 0: leaf. Kinds 1 to 4: E for union, intersection, difference, exclusive union.
-- 5 to 8: R for the same four, the left operand raked. 9 to 12: R, the right one raked. 13: S. 14: C.
abbrev pub number : Kind → ℕ
number leaf = 0
number (E o) = 1 + index o
number (R left o) = 5 + index o
number (R right o) = 9 + index o
number S = 13
number C = 14

pub record Rec : Type 0 where
  pub kind : Kind
  pub first : ℕ
  pub second : ℕ

-- 65535 where there is none.
abbrev pub absent : ℕ
absent = 65535

-- Leaf: first is the shape.
abbrev pub leaf_rec : ℕ → Rec
leaf_rec s = record { kind = leaf; first = s; second = absent }

-- E (left, right).
abbrev pub E_rec : Op → ℕ → ℕ → Rec
E_rec o a b = record { kind = E o; first = a; second = b }

-- R over the raked operand.
abbrev pub R_rec : Side → Op → ℕ → Rec
R_rec side o raked = record { kind = R side o; first = raked; second = absent }

-- S (pair node, value node).
abbrev pub S_rec : ℕ → ℕ → Rec
S_rec pair value = record { kind = S; first = pair; second = value }

-- C (upper, lower).
abbrev pub C_rec : ℕ → ℕ → Rec
C_rec upper lower = record { kind = C; first = upper; second = lower }

abbrev pub is_leaf : Kind → Bool
is_leaf leaf = true
is_leaf (E o) = false
is_leaf (R side o) = false
is_leaf S = false
is_leaf C = false

-- The nodes that a record stands over: none where it is a leaf, the first alone where it is R, else both.
abbrev pub below : Kind → ℕ → ℕ → List ℕ
below leaf a b = []
below (E o) a b = a ∷ b ∷ []
below (R side o) a b = a ∷ []
below S a b = a ∷ b ∷ []
below C a b = a ∷ b ∷ []

abbrev pub children : Rec → List ℕ
children r = below r.kind r.first r.second

abbrev pub listed : ℕ → List ℕ → Bool
listed c [] = false
listed c (d ∷ ds) = eqb c d || listed c ds

-- The record stands over node c.
abbrev pub over : ℕ → Rec → Bool
over c r = listed c (children r)

-- Building fills three answer lists with the records: kinds, firsts, seconds, one entry a dwarf node.
abbrev pub kinds_of : List Rec → List ℕ
kinds_of rs = map (λ r. number r.kind) rs

abbrev pub firsts_of : List Rec → List ℕ
firsts_of rs = map (λ r. r.first) rs

abbrev pub seconds_of : List Rec → List ℕ
seconds_of rs = map (λ r. r.second) rs
