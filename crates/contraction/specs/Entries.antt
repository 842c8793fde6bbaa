-- What three arrays of numbers hold of a dwarf tree, one entry a node: what the passes over it share.
use Rattle.std.specs.Prelude.{ℕ, zero, suc, ◌-◌, cond, List, [], ◌∷◌, map, ltb, get_or}
use Rattle.formula.specs.Formula.{op_at}
use Rattle.contraction.specs.Records.{left, right, Kind, leaf, E, R, S, C, number, Rec}

pub record Entry : Type 0 where
  pub kind : ℕ
  pub first : ℕ
  pub second : ℕ

abbrev pub entry : ℕ → ℕ → ℕ → Entry
entry k f s = record { kind = k; first = f; second = s }

-- Entry i.
abbrev pub entry_at : List ℕ → List ℕ → List ℕ → ℕ → Entry
entry_at ks fs ss i = entry (get_or ks i 0) (get_or fs i 0) (get_or ss i 0)

-- n entries from number i on.
unfoldable pub entries : List ℕ → List ℕ → List ℕ → ℕ → ℕ → List Entry
entries ks fs ss i zero = []
entries ks fs ss i (suc n) = entry_at ks fs ss i ∷ entries ks fs ss (suc i) n

-- The entry of a record.
abbrev pub entry_of : Rec → Entry
entry_of r = entry (number r.kind) r.first r.second

-- The kind with this number. No record has a number above 14.
unfoldable pub kind_at : ℕ → Kind
kind_at n =
    cond (ltb n 1) leaf
    (cond (ltb n 5) (E (op_at (n - 1)))
    (cond (ltb n 9) (R left (op_at (n - 5)))
    (cond (ltb n 13) (R right (op_at (n - 9)))
    (cond (ltb n 14) S C))))

-- The record of an entry, record i, and n records from number i on.
abbrev pub rec_of : Entry → Rec
rec_of e = record { kind = kind_at e.kind; first = e.first; second = e.second }

abbrev pub rec_at : List ℕ → List ℕ → List ℕ → ℕ → Rec
rec_at ks fs ss i = rec_of (entry_at ks fs ss i)

abbrev pub recs : List ℕ → List ℕ → List ℕ → ℕ → ℕ → List Rec
recs ks fs ss i n = map rec_of (entries ks fs ss i n)
