-- What the passes over the arrays need: the shape of the records that they hold, and the lists that are filled from them.
use Rattle.std.specs.Prelude.{ℕ, suc, ◌+◌, ◌-◌, ◌/◌, ◌%◌, ◌<◌, ◌≤◌, ◌≡◌, Bool, true, false, List, [], ◌∷◌, length, get_or, set}
use Rattle.contraction.specs.Records.{Rec, absent, is_leaf, over}
use Rattle.contraction.specs.Entries.{kind_at, rec_at, recs}
use Rattle.labels.specs.Labels.{rule, is_of}

-- The number of the first record that passes, of records numbered from j on; 65535 where there is none.
unfoldable pub seek : (Rec → Bool) → ℕ → List Rec → ℕ
seek p j [] = absent
seek p j (r ∷ rs) = elim (p r) [ true ↦ j | false ↦ seek p (suc j) rs ]

-- What each kind makes of the labels x and y, with every shape outside: entry 16 * kind + 4 * x + y.
pub record Rules (rules : List ℕ) : Type 0 where
  pub so : (i : ℕ) → i < 256 → get_or rules i 0 ≡ rule (kind_at (i / 16)) false (i / 4 % 4) (i % 4)

-- What the passes rely on: leaves come first, they are few, children have smaller numbers, and a node is a child of one node at most.
pub record Shaped (ks fs ss : List ℕ) (leaves nodes : ℕ) : Type 0 where
  pub few : leaves ≤ 1024
  pub within : leaves ≤ nodes
  pub some : 0 < nodes
  pub room : nodes ≤ 3072
  pub leaf : (i : ℕ) → i < leaves → is_leaf (kind_at (get_or ks i 0)) ≡ true
  pub inner : (i : ℕ) → leaves ≤ i → i < nodes → is_leaf (kind_at (get_or ks i 0)) ≡ false
  pub named : (i : ℕ) → i < leaves → get_or fs i 0 < 256
  pub below : (i c : ℕ) → i < nodes → over c (rec_at ks fs ss i) ≡ true → c < i
  pub once : (c i k : ℕ) → i < nodes → k < nodes → over c (rec_at ks fs ss i) ≡ true → over c (rec_at ks fs ss k) ≡ true → i ≡ k

-- Node j entered as the parent of each of the nodes cs.
abbrev pub adopted : ℕ → List ℕ → List ℕ → List ℕ
adopted j [] ps = ps
adopted j (c ∷ cs) ps = adopted j cs (set ps c j)

-- The links of the nodes stand in one list. Its first entries are each node's parent.
pub record Parents (ks fs ss : List ℕ) (nodes : ℕ) (links : List ℕ) : Type 0 where
  pub up : (c : ℕ) → c < nodes → get_or links c 0 ≡ seek (over c) 0 (recs ks fs ss 0 nodes)

-- Behind room for 3072 nodes stand the leaves of each shape as a chain: the first leaf of a shape, of 256 shapes, and then the next leaf of a leaf's shape.
pub record Chains (ks fs ss : List ℕ) (leaves nodes : ℕ) (links : List ℕ) : Type 0 where
  pub first : (s : ℕ) → s < 256 → get_or links (3072 + s) 0 ≡ seek (is_of s) 0 (recs ks fs ss 0 nodes)
  pub next : (i : ℕ) → i < leaves → get_or links (3328 + i) 0 ≡ seek (is_of (get_or fs i 0)) (suc i) (recs ks fs ss (suc i) (nodes - suc i))

-- No parent is entered yet.
pub record Bare (links : List ℕ) : Type 0 where
  pub long : length links ≡ 4352
  pub none : (c : ℕ) → c < 3072 → get_or links c 0 ≡ absent

-- The chains are as they were.
pub record Above (links links' : List ℕ) : Type 0 where
  pub kept : (c : ℕ) → 3072 ≤ c → c < 4352 → get_or links' c 0 ≡ get_or links c 0

-- What a pass upwards looks up,
pub record Linked (ks fs ss : List ℕ) (leaves nodes : ℕ) (links : List ℕ) : Type 0 where
  pub shaped : Shaped ks fs ss leaves nodes
  pub ups : Parents ks fs ss nodes links

-- and all that a toggle looks up.
pub record Ready (ks fs ss : List ℕ) (leaves nodes : ℕ) (links : List ℕ) : Type 0 where
  pub linked : Linked ks fs ss leaves nodes links
  pub chains : Chains ks fs ss leaves nodes links
