-- Compress on tokens, one at a time: what the pass keeps. `proofs/Trees.antt` ties it to the tree's step.
-- A chain is a run of one-child nodes, the lowest first. Paired from the top, an odd one left is the lowest: it stands first.
use Rattle.std.specs.Prelude.{ℕ, ◌+◌, ◌%◌, ◌≤◌, ◌<◌, ◌≡◌, Bool, ◌&&◌, nat_le, nat_lt, cond, List, [], ◌∷◌, ◌++◌, map, eqb, Option, Some, None}
use Rattle.contraction.specs.Records.{C_rec}
use Rattle.contraction.specs.Rounds.{Work, compresses, compressed}
use Rattle.contraction.specs.Entries.{Entry, entry_of}
use Rattle.contraction.specs.declared.Records.{Records}
use Rattle.contraction.specs.declared.TheConstants.{CODES, NODES}
use Rattle.tree_tokens.specs.Tokens.{Token, bare, single, double, flat, decode, toks, entries_in, Leaves}
use Rattle.tree_tokens.specs.declared.Extent.{Extent}
use Rattle.tree_compress.specs.declared.PairingFills.{PairingFills}

-- A one-child node's token, by its number.
abbrev pub is_single : ℕ → Bool
is_single t = nat_le 4096 t && nat_lt t 0xFFF0

-- How many one-child nodes stand at the front.
abbrev pub chain_length : List Token → ℕ
chain_length [] = 0
chain_length (bare d ∷ ts) = 0
chain_length (single d ∷ ts) = chain_length ts + 1
chain_length (double o ∷ ts) = 0

-- The lower node of a pair whose upper one comes next, if there is one; the tokens out, the records made, and the next number.
pub record Pairing : Type 0 where
  pub held : Option ℕ
  pub out : List Token
  pub made : List Entry
  pub next : ℕ

abbrev pub puts : Token → Pairing → Pairing
puts t σ = record { held = None; out = σ.out ++ (t ∷ []); made = σ.made; next = σ.next }

abbrev holds : ℕ → Pairing → Pairing
holds d σ = record { held = Some d; out = σ.out; made = σ.made; next = σ.next }

abbrev pub pairs : ℕ → ℕ → Pairing → Pairing
pairs upper lower σ =
    record { held = None; out = σ.out ++ (single σ.next ∷ []); made = σ.made ++ (entry_of (C_rec upper lower) ∷ []); next = σ.next + 1 }

-- A one-child node at the front of a run of k: the upper one of a pair, or the lower one if k is even, else it waits as it is.
abbrev on_chained : ℕ → ℕ → Option ℕ → Pairing → Pairing
on_chained d k (Some lower) σ = pairs d lower σ
on_chained d k None σ = cond (eqb (k % 2) 0) (holds d σ) (puts (single d) σ)

abbrev pub pair_token : Pairing → Token → ℕ → Pairing
pair_token σ (bare d) k = puts (bare d) σ
pair_token σ (single d) k = on_chained d k σ.held σ
pair_token σ (double o) k = puts (double o) σ

abbrev pub pair_tokens : Pairing → List Token → Pairing
pair_tokens σ [] = σ
pair_tokens σ (t ∷ ts) = pair_tokens (pair_token σ t (chain_length (t ∷ ts))) ts

-- ---- What the arrays hold of it

-- Unless it is 0, k is how many one-child nodes stand at the front.
pub record Counted (tokens : List ℕ) (k : ℕ) : Type 0 where
  pub is : (k ≡ 0 → ⊥) → k ≡ chain_length (map decode tokens)

abbrev pub pairing_in : List ℕ → Records → PairingFills → Pairing
pairing_in out rs m = record { held = m.held; out = toks out m.at; made = entries_in rs m.next; next = m.next }

-- Where a pass begins: nothing is held and nothing is out.
abbrev pub pairing_start : Records → ℕ → Pairing
pairing_start rs next = record { held = None; out = []; made = entries_in rs next; next = next }

-- There is room for one token more.
pub record PairingRoom (m : PairingFills) : Type 0 where
  pub at : m.at < CODES
  pub next : m.next < NODES

-- A step's answer: the state that is due, and each array filled at most one further.
pub record PairingStep (due σ : Pairing) (m r : PairingFills) : Type 0 where
  pub is : σ ≡ due
  pub at : r.at ≤ m.at + 1
  pub next : r.next ≤ m.next + 1

-- What the pass leaves of any tree that the tokens are of.
pub record CompressedTo (tokens : List ℕ) (next : ℕ) (found : Records) (out : List ℕ) (rs : Records) (r : Extent) : Type 0 where
  pub leaves : (w : Work) → map decode tokens ≡ flat w → Leaves (compressed w next) (entries_in found next) (compresses w) out rs r
