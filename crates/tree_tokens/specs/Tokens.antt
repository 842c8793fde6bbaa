-- What the arrays of a contraction hold: the working tree in postfix order, a token a node, and the records made so far.
use Rattle.std.specs.Prelude.{ℕ, ◌-◌, ◌≡◌, cond, List, [], ◌∷◌, ◌++◌, map, length, ltb, eqb, take}
use Rattle.std.proofs.Math.Option.{Option, none, some}
use Rattle.formula.specs.Formula.{index, first_operation}
use Rattle.contraction.specs.Records.{Rec, absent}
use Rattle.contraction.specs.Rounds.{Work, tip, one, two}
use Rattle.contraction.specs.Entries.{Entry, entries, entry_of, recs}
use Rattle.contraction.specs.declared.Records.{Records}
use Rattle.contraction.specs.declared.TheConstants.{NODES}
use Rattle.tree_tokens.specs.declared.Extent.{Extent}

-- A leaf or a one-child node with its dwarf root; a two-child node with its operation's index.
pub data Token : Type 0 where
  bare : ℕ → Token
  single : ℕ → Token
  double : ℕ → Token

-- The nodes of a working tree in postfix order.
abbrev pub flat : Work → List Token
flat (tip d) = bare d ∷ []
flat (one d c) = flat c ++ (single d ∷ [])
flat (two o l r) = flat l ++ (flat r ++ (double (index o) ∷ []))

-- A token as a number of 16 bits: a leaf is its dwarf root, a one-child node its dwarf root above this, an operation its code.
abbrev first_single : ℕ
first_single = 4096

abbrev pub decode : ℕ → Token
decode t =
    cond (ltb t first_single) (bare t) (cond (ltb t first_operation) (single (t - first_single)) (double (t - first_operation)))

-- A dwarf root, or none where 65535 stands.
abbrev pub present : ℕ → Option ℕ
present x = cond (eqb x absent) none (some x)

-- The first n tokens of an array.
abbrev pub toks : List ℕ → ℕ → List Token
toks l n = map decode (take n l)

-- The first n records of a tree, as entries and as what they say.
abbrev pub entries_in : Records → ℕ → List Entry
entries_in rs n = entries rs.kinds rs.firsts rs.seconds 0 n

abbrev pub recs_in : Records → ℕ → List Rec
recs_in rs n = recs rs.kinds rs.firsts rs.seconds 0 n

-- The arrays of records are as long as their type says.
pub record Long (rs : Records) : Type 0 where
  pub kinds : length rs.kinds ≡ NODES
  pub firsts : length rs.firsts ≡ NODES
  pub seconds : length rs.seconds ≡ NODES

-- What a step leaves: the tokens of the tree w, and behind the entries it found those of the records that it made.
pub record Leaves (w : Work) (found : List Entry) (made : List Rec) (out : List ℕ) (rs : Records) (r : Extent) : Type 0 where
  pub tree : toks out r.at ≡ flat w
  pub records : entries_in rs r.next ≡ found ++ map entry_of made
