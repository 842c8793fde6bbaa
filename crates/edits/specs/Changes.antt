-- What an edit changes: whether an operation stands at a position, and a record over another operation.
use Rattle.std.specs.Prelude.{ℕ, ◌+◌, cond, eqb}
use Rattle.formula.specs.Formula.{Op, Formula, leaf, node}
use Rattle.contraction.specs.Records.{Kind, leaf as leaf_kind, E, R, S, C, Rec, leaf_rec}
use Rattle.edits.specs.Edits.{size}

-- How many operations stand at position p: 1 or none.
abbrev pub operations : ℕ → ℕ → Formula → ℕ
operations p n (leaf s) = 0
operations p n (node o l r) = cond (eqb p (n + (size l + size r))) 1 0 + (operations p n l + operations p (n + size l) r)

-- A record where there is none.
abbrev pub no_rec : Rec
no_rec = leaf_rec 0

-- The kind of the same record over another operation.
abbrev pub rekind : (Op → Op) → Kind → Kind
rekind h leaf_kind = leaf_kind
rekind h (E o) = E (h o)
rekind h (R side o) = R side (h o)
rekind h S = S
rekind h C = C

abbrev pub reop : (Op → Op) → Rec → Rec
reop h r = record { kind = rekind h r.kind; first = r.first; second = r.second }

abbrev pub with_op : Op → Rec → Rec
with_op o r = reop (λ x. o) r
