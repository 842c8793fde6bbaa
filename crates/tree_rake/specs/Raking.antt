-- Rake on tokens, one at a time: what the pass keeps. `proofs/Trees.antt` ties it to the tree's step.
use Rattle.std.specs.Prelude.{ℕ, zero, suc, ◌+◌, ◌≤◌, ◌<◌, ◌≡◌, false, List, [], ◌∷◌, ◌++◌, map, get_or}
use Rattle.std.proofs.Math.Option.{Option, none, some}
use Rattle.contraction.specs.Records.{absent, S_rec}
use Rattle.contraction.specs.Rounds.{Work, one_remains, rakes, raked}
use Rattle.contraction.specs.Entries.{Entry, entry, entry_of}
use Rattle.contraction.specs.declared.Records.{Records}
use Rattle.contraction.specs.declared.TheConstants.{CODES, NODES}
use Rattle.tree_tokens.specs.Tokens.{Token, bare, single, double, decode, present, flat, toks, entries_in, Leaves}
use Rattle.tree_tokens.specs.declared.Extent.{Extent}
use Rattle.tree_rake.specs.declared.RakingFills.{RakingFills}

-- The operands that wait, the last one first: a leaf as the round found it, with its dwarf root, is raked, and was not put out;
-- of a larger tree the tokens are out, and none stands here. Then the tokens out, the records made, and the next number.
pub record Raking : Type 0 where
  pub stack : List (Option ℕ)
  pub out : List Token
  pub made : List Entry
  pub next : ℕ

abbrev with_stack : List (Option ℕ) → Raking → Raking
with_stack st σ = record { stack = st; out = σ.out; made = σ.made; next = σ.next }

-- A token goes out, and a larger tree waits.
abbrev pub kept : Token → Raking → Raking
kept t σ = record { stack = none ∷ σ.stack; out = σ.out ++ (t ∷ []); made = σ.made; next = σ.next }

-- A record is made besides.
abbrev pub makes : Entry → Token → Raking → Raking
makes r t σ = record { stack = none ∷ σ.stack; out = σ.out ++ (t ∷ []); made = σ.made ++ (r ∷ []); next = σ.next + 1 }

abbrev pub on_single : ℕ → Raking → List (Option ℕ) → Raking
on_single d σ [] = σ
on_single d σ (some v ∷ st) = makes (entry_of (S_rec d v)) (bare σ.next) (with_stack st σ)
on_single d σ (none ∷ st) = kept (single d) (with_stack st σ)

abbrev pub on_double : ℕ → Raking → List (Option ℕ) → Raking
on_double o σ [] = σ
on_double o σ (b ∷ []) = σ
on_double o σ (some b ∷ some a ∷ st) = makes (entry (1 + o) a b) (bare σ.next) (with_stack st σ)
on_double o σ (none ∷ some a ∷ st) = makes (entry (5 + o) a absent) (single σ.next) (with_stack st σ)
on_double o σ (some b ∷ none ∷ st) = makes (entry (9 + o) b absent) (single σ.next) (with_stack st σ)
on_double o σ (none ∷ none ∷ st) = kept (double o) (with_stack st σ)

abbrev pub rake_token : Raking → Token → Raking
rake_token σ (bare d) = with_stack (some d ∷ σ.stack) σ
rake_token σ (single d) = on_single d σ σ.stack
rake_token σ (double o) = on_double o σ σ.stack

-- ---- What the arrays hold of it

-- The first n entries of the stack, the last one first: 65535 where a larger tree waits.
abbrev pub operands : List ℕ → ℕ → List (Option ℕ)
operands l zero = []
operands l (suc n) = present (get_or l n 0) ∷ operands l n

abbrev pub raking_in : List ℕ → List ℕ → Records → RakingFills → Raking
raking_in out st rs m = record { stack = operands st m.top; out = toks out m.at; made = entries_in rs m.next; next = m.next }

-- Where a pass begins: nothing waits and nothing is out.
abbrev pub raking_start : Records → ℕ → Raking
raking_start rs next = record { stack = []; out = []; made = entries_in rs next; next = next }

-- There is room for one token more.
pub record RakingRoom (m : RakingFills) : Type 0 where
  pub top : m.top < CODES
  pub at : m.at < CODES
  pub next : m.next < NODES

-- A step's answer: the state that is due, and each array filled at most one further.
pub record RakingStep (due σ : Raking) (m r : RakingFills) : Type 0 where
  pub is : σ ≡ due
  pub top : r.top ≤ m.top + 1
  pub at : r.at ≤ m.at + 1
  pub next : r.next ≤ m.next + 1

-- What the pass leaves of any tree, no single leaf, that the tokens are of.
pub record RakedTo (tokens : List ℕ) (next : ℕ) (found : Records) (out : List ℕ) (rs : Records) (r : Extent) : Type 0 where
  pub leaves : (w : Work) → map decode tokens ≡ flat w → one_remains w ≡ false → Leaves (raked w next) (entries_in found next) (rakes w) out rs r
