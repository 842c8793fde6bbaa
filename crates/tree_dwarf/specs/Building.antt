-- What the passes of building keep: the leaves numbered code by code, and the rounds one by one.
use Rattle.std.specs.Prelude.{ℕ, ◌+◌, ◌-◌, ◌≤◌, ◌<◌, ◌≡◌, cond, List, [], ◌∷◌, ◌++◌, map, ltb, length}
use Rattle.formula.specs.Formula.{Formula, first_operation}
use Rattle.contraction.specs.Records.{leaf_rec}
use Rattle.contraction.specs.Rounds.{Work, nodes, made, rounds, planted, leaf_recs, round_makes, round_leaves}
use Rattle.contraction.specs.Entries.{Entry, entry_of}
use Rattle.contraction.specs.declared.Records.{Records}
use Rattle.contraction.specs.declared.TheConstants.{CODES, NODES}
use Rattle.tree_tokens.specs.Tokens.{Token, bare, double, flat, toks, entries_in, Leaves}
use Rattle.tree_tokens.specs.declared.Extent.{Extent}
use Rattle.tree_dwarf.specs.Dwarfed.{Plans}
use Rattle.tree_dwarf.specs.declared.Figures.{Figures}

-- ---- Leaves get dwarf nodes 0, 1, .. from left to right

-- The tokens out, the records made, and the next number.
pub record Planting : Type 0 where
  pub out : List Token
  pub made : List Entry
  pub next : ℕ

abbrev numbered : ℕ → Planting → Planting
numbered s σ = record { out = σ.out ++ (bare σ.next ∷ []); made = σ.made ++ (entry_of (leaf_rec s) ∷ []); next = σ.next + 1 }

abbrev pub copied : ℕ → Planting → Planting
copied o σ = record { out = σ.out ++ (double o ∷ []); made = σ.made; next = σ.next }

abbrev pub plant_code : Planting → ℕ → Planting
plant_code σ c = cond (ltb c first_operation) (numbered c σ) (copied (c - first_operation) σ)

abbrev pub planting_in : List ℕ → ℕ → Records → ℕ → Planting
planting_in ts i rs next = record { out = toks ts i; made = entries_in rs next; next = next }

abbrev pub planting_start : Planting
planting_start = record { out = []; made = []; next = 0 }

-- What planting leaves of any formula whose postfix order the codes are.
pub record PlantedTo (codes a : List ℕ) (rs : Records) (next : ℕ) : Type 0 where
  pub leaves : (f : Formula) → Plans f codes → Leaves (planted f 0) [] (leaf_recs f) a rs (record { at = length codes; next = next })

-- ---- Rounds

-- The tokens are those of some tree, and the records made of it have room.
pub record Rooted (a : List ℕ) (m : Extent) : Type 0 where
  pub few : m.at ≤ CODES
  pub room : m.next + m.at ≤ NODES
  pub tree : Work
  pub is : toks a m.at ≡ flat tree

-- What a round leaves of any tree that the tokens are of, more than one: fewer nodes, and no more records made than nodes taken away.
pub record RoundTo (a : List ℕ) (m : Extent) (found : Records) (a' : List ℕ) (rs : Records) (r : Extent) : Type 0 where
  pub many : 1 < m.at
  pub fewer : r.at < m.at
  pub room : r.next + r.at ≤ m.next + m.at
  pub leaves : (w : Work) → toks a m.at ≡ flat w → Leaves (round_leaves w m.next) (entries_in found m.next) (round_makes w m.next) a' rs r

-- All rounds are done, from the tree w and the next number n on.
pub record Contracted (w : Work) (n : ℕ) (found all : List Entry) (many : ℕ) : Type 0 where
  pub records : all ≡ found ++ map entry_of (made (nodes w) w n)
  pub rounds_are : many ≡ rounds (nodes w) w n

-- They are done of any tree that the tokens are of, and all records have room.
pub record ContractedTo (a : List ℕ) (m : Extent) (found rs : Records) (total many : ℕ) : Type 0 where
  pub few : total ≤ NODES
  pub contracted : (w : Work) → toks a m.at ≡ flat w → Contracted w m.next (entries_in found m.next) (entries_in rs total) many

-- The numbers built stay within the arrays.
pub record Bounded (b : Figures) : Type 0 where
  pub leaves_few : b.leaves ≤ 1024
  pub leaves_first : b.leaves ≤ b.nodes
  pub nodes_few : b.nodes ≤ NODES
