-- One operation changed: the formula with another operation at a postfix position, and the node of a position.
use Rattle.std.specs.Prelude.{ℕ, suc, ◌+◌, true, false, cond, List, [], ◌∷◌, eqb}
use Rattle.formula.specs.Formula.{Op, union, intersection, Formula, leaf, node}
use Rattle.contraction.specs.Records.{number, Rec, absent}
use Rattle.contraction.specs.Rounds.{dwarf}

-- How many codes a formula has.
abbrev pub size : Formula → ℕ
size (leaf s) = 1
size (node o l r) = suc (size l + size r)

-- Each operation replaced by what g says of its postfix position and of it, where the first code stands at position n.
abbrev pub remade : (ℕ → Op → Op) → ℕ → Formula → Formula
remade g n (leaf s) = leaf s
remade g n (node o l r) = node (g (n + (size l + size r)) o) (remade g n l) (remade g (n + size l) r)

-- Operation o at position p, and every other as it is.
abbrev pub only : ℕ → Op → ℕ → Op → Op
only p o q x = cond (eqb p q) o x

-- The formula with operation o at postfix position p, from 0; as it is where no operation stands there.
abbrev pub edited : ℕ → Op → Formula → Formula
edited p o f = remade (only p o) 0 f

-- The number of the first record whose kind differs, of records numbered from n on; 65535 where there is none.
unfoldable pub apart : ℕ → List Rec → List Rec → ℕ
apart n [] qs = absent
apart n (r ∷ rs) [] = absent
apart n (r ∷ rs) (q ∷ qs) = elim (eqb (number r.kind) (number q.kind)) [ true ↦ apart (suc n) rs qs | false ↦ n ]

-- The node of the operation at position p: the one whose record differs with that operation.
-- `proofs/Edits.antt` shows that it is one alone, E or R, and that nothing else differs.
unfoldable pub node_at : Formula → ℕ → ℕ
node_at f p = apart 0 (dwarf (edited p union f)) (dwarf (edited p intersection f))
