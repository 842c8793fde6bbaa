-- What the passes keep: the codes gone through one by one, where the nodes stand so far, and the last node that stands at a position.
use Rattle.std.specs.Prelude.{ℕ, zero, suc, ◌+◌, ◌-◌, ◌<◌, ◌≤◌, ◌≡◌, Bool, true, false, cond, ◌&&◌, List, ltb, eqb, length, get_or, set, take, replicate}
use Rattle.formula.specs.Formula.{first_operation, Formula, Over, postfix}
use Rattle.contraction.specs.Entries.{kind_at}
use Rattle.edits.specs.Spots.{Ups, LeafSpots, works}

-- At a code: for each position before it the first position of the operand that ends there, the operations over operands, where the leaves stand.
pub record Scan : Type 0 where
  pub starts : List ℕ
  pub ups : List ℕ
  pub spots : List ℕ
  pub next : ℕ
  pub at : ℕ

abbrev pub leaf_met : Scan → Scan
leaf_met σ =
    record {
      starts = set σ.starts σ.at σ.at;
      ups = σ.ups;
      spots = set σ.spots σ.next σ.at;
      next = σ.next + 1;
      at = σ.at + 1;
    }

-- The right operand ends just before the operation, the left one just before the right one's first code.
abbrev left_end : List ℕ → ℕ → ℕ
left_end starts at = get_or starts (at - 1) 0 - 1

abbrev pub joined_starts : List ℕ → ℕ → List ℕ
joined_starts starts at = set starts at (get_or starts (left_end starts at) 0)

abbrev pub joined_ups : List ℕ → List ℕ → ℕ → List ℕ
joined_ups starts ups at = set (set ups (at - 1) at) (left_end starts at) at

abbrev pub operation_met : Scan → Scan
operation_met σ =
    record {
      starts = joined_starts σ.starts σ.at;
      ups = joined_ups σ.starts σ.ups σ.at;
      spots = σ.spots;
      next = σ.next;
      at = σ.at + 1;
    }

abbrev pub met : Scan → ℕ → Scan
met σ c = cond (ltb c first_operation) (leaf_met σ) (operation_met σ)

abbrev pub view : List ℕ → List ℕ → List ℕ → ℕ → ℕ → Scan
view starts ups spots next at = record { starts = starts; ups = ups; spots = spots; next = next; at = at }

unfoldable pub zeros : List ℕ
zeros = replicate 3072 0

abbrev pub begin : Scan
begin = view zeros zeros zeros 0 0

-- What the scan leaves: which operation is over each operand, and where the leaves stand.
pub record Scanned (f : Formula) (ups spots : List ℕ) : Type 0 where
  pub long : length spots ≡ 3072
  pub over : Ups ups 0 f
  pub at_leaves : LeafSpots spots 0 0 f

pub record ScanDone (codes : List ℕ) (ups spots : List ℕ) : Type 0 where
  pub so : (f : Formula) → Over 256 f → codes ≡ postfix f → Scanned f ups spots

-- Where a node stands, by its kind and its first.
abbrev pub spot_of : List ℕ → List ℕ → ℕ → ℕ → ℕ
spot_of ups xs kind first = cond (works (kind_at kind)) (get_or ups (get_or xs first 0) 0) (get_or xs first 0)

-- The nodes that are no leaves stand over smaller numbers.
pub record Falls (fs : List ℕ) (leaves nodes : ℕ) : Type 0 where
  pub within : leaves ≤ nodes
  pub room : nodes ≤ 3072
  pub below : (i : ℕ) → leaves ≤ i → i < nodes → get_or fs i 0 < i

-- Up to node k it is written where each node stands; the leaves were known.
pub record StandTo (ks fs ups known : List ℕ) (leaves k : ℕ) (xs : List ℕ) : Type 0 where
  pub kept : (i : ℕ) → i < leaves → get_or xs i 0 ≡ get_or known i 0
  pub right : (i : ℕ) → leaves ≤ i → i < k → get_or xs i 0 ≡ spot_of ups xs (get_or ks i 0) (get_or fs i 0)

-- Node i is E or R and stands at position q.
abbrev pub works_at : List ℕ → List ℕ → ℕ → ℕ → Bool
works_at ks xs q i = works (kind_at (get_or ks i 0)) && eqb q (get_or xs i 0)

-- The last of the numbers below k that pass; 65535 where there is none.
unfoldable pub last_of : (ℕ → Bool) → ℕ → ℕ
last_of test zero = 65535
last_of test (suc k) = elim (test k) [ true ↦ k | false ↦ last_of test k ]

-- Node i, of the kind and at the position told, entered if it is E or R.
abbrev pub entered : ℕ → ℕ → ℕ → List ℕ → List ℕ
entered kind spot i places = cond (works (kind_at kind)) (set places spot i) places

-- Of the first k nodes each is entered at its position.
pub record EnteredTo (ks xs : List ℕ) (k : ℕ) (places : List ℕ) : Type 0 where
  pub long : length places ≡ 2048
  pub so : (q : ℕ) → q < 2048 → get_or places q 0 ≡ last_of (works_at ks xs q) k
