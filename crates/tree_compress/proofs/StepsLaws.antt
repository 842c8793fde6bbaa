-- Laws of the steps: the tokens that are left, and what each way through a step comes to.
use Prim.Native.Nat.{ℕ, ◌+◌, ◌-◌, ◌≤◌, ◌<◌}
use native.Mathlib.Numerals.{add-one}
use native.Mathlib.Omega.{arith}
use mathlib.Core.Path.{◌≡◌, refl, ◌∙◌}
use mathlib.Core.List.{List, [], ◌∷◌, ◌++◌, map}
use borrow.Author.Tests.{ltb-true, ltb-false, leb-true, leb-false}
use lib.ListN.{length, get_or, drop}
use lib.Seq.{drop-cons}
use Rattle.std.specs.Prelude.{None, cond, take_while}
use Rattle.std.proofs.lemmas.List.{drop_all}
use Rattle.std.proofs.lemmas.List.Sums.{take_while-cons}
use mathlib.Core.Bool.{Bool, true, false}
use lib.Dec.{ltb, leb}
use Rattle.contraction.specs.declared.Records.{Records}
use Rattle.tree_tokens.specs.Tokens.{Token, bare, single, double, decode, toks, entries_in, Long}
use Rattle.tree_tokens.proofs.TokensLaws.{decode-bare, decode-single, decode-double}
use Rattle.tree_compress.specs.Pairing.{is_single, chain_length, Pairing, puts, pair_token, pair_tokens, Counted, pairing_in, pairing_start, PairingStep, CompressedTo}
use Rattle.tree_compress.specs.declared.PairingFills.{PairingFills}
use Rattle.tree_compress.proofs.Trees.{compressed_tree, compressed_records}

-- ---- a run counted
-- the tokens that are left
module _ (l : List ℕ) (i : ℕ) (h : i < length l) where
  left-next : map decode (drop i l) ≡ decode (get_or l i 0) ∷ map decode (drop (i + 1) l)
  left-next = rw (drop-cons l i 0 h, add-one)

  tokens_next : (σ : Pairing) → pair_tokens (pair_token σ (decode (get_or l i 0)) (chain_length (map decode (drop i l)))) (map decode (drop (i + 1) l)) ≡ pair_tokens σ (map decode (drop i l))
  tokens_next σ = rw left-next

chain_more : (t : ℕ) (ts : List Token) → chain_length (decode t ∷ ts) ≡ cond (is_single t) (1 + chain_length ts) 0
chain_more t ts = go (leb 4096 t) (ltb t 0xFFF0) refl refl
  where
    go : (a b : Bool) → leb 4096 t ≡ a → ltb t 0xFFF0 ≡ b → chain_length (decode t ∷ ts) ≡ cond (is_single t) (1 + chain_length ts) 0
    go false b p q = rw (decode-bare t (leb-false 4096 t p), p)
    go true false p q = rw (decode-double t (ltb-false t 0xFFF0 q), p, q)
    go true true p q = rw (decode-single t (leb-true 4096 t p) (ltb-true t 0xFFF0 q), p, q) (omega arith)

pub chain_run : (l : List ℕ) → length (take_while is_single l) ≡ chain_length (map decode l)
chain_run [] = refl
chain_run (t ∷ ts) = go (is_single t) (chain_run ts) refl
  where
    go : (b : Bool) → length (take_while is_single ts) ≡ chain_length (map decode ts) → is_single t ≡ b → length (take_while is_single (t ∷ ts)) ≡ chain_length (map decode (t ∷ ts))
    go true e p = rw (chain_more t (map decode ts), take_while-cons, p) (omega (arith, e))
    go false e p = rw (chain_more t (map decode ts), take_while-cons, p)

-- ---- a token goes out
pub view_put : (out out' : List ℕ) (m : PairingFills) (t : ℕ) → toks out' (m.at + 1) ≡ toks out m.at ++ (decode t ∷ []) → (rs : Records)
    → pairing_in out' rs (record { held = None; at = m.at + 1; next = m.next }) ≡ puts (decode t) (pairing_in out rs m)
view_put out out' m t e rs = rw e

-- ---- the loop: the steps from here, over the tokens that are left, come to what they come to from the start
pub record PairingAt (tokens : List ℕ) (next : ℕ) (found : Records) (out : List ℕ) (rs : Records) (m : PairingFills) (i k : ℕ) : Type 0 where
  pub at : m.at ≤ i
  pub more : m.next ≤ next + i
  pub counted : Counted (drop i tokens) k
  pub is : pair_tokens (pairing_in out rs m) (map decode (drop i tokens)) ≡ pair_tokens (pairing_start found next) (map decode tokens)

chain_tail : (t : Token) (ts : List Token) (r k : ℕ) → r ≡ chain_length (t ∷ ts) → k ≡ r - 1 → (k ≡ 0 → ⊥) → k ≡ chain_length ts
chain_tail (bare d) ts r k e f h = absurd (h (omega arith))
chain_tail (single d) ts r k e f h = omega arith
chain_tail (double o) ts r k e f h = absurd (h (omega arith))

-- after a token the run is one shorter, if any of it is left
chain_less : (l : List ℕ) (i r k : ℕ) → r ≡ chain_length (map decode (drop i l)) → k ≡ r - 1 → i < length l → Counted (drop (i + 1) l) k
chain_less l i r k e f h = record { is = chain_tail (decode (get_or l i 0)) (map decode (drop (i + 1) l)) r k (rw (left-next l i h) at e) f }

tokens_on : (l : List ℕ) (i : ℕ) (σ r : Pairing) (k : ℕ) {τ : Pairing} → r ≡ pair_token σ (decode (get_or l i 0)) k → k ≡ chain_length (map decode (drop i l))
    → pair_tokens σ (map decode (drop i l)) ≡ τ → i < length l → pair_tokens r (map decode (drop (i + 1) l)) ≡ τ
tokens_on l i σ r k q e o h = rw (q, e) (tokens_next l i h _ ∙ o)

tokens_end : (l : List ℕ) (i : ℕ) {σ τ : Pairing} → pair_tokens σ (map decode (drop i l)) ≡ τ → length l ≤ i → σ ≡ τ
tokens_end l i e b = rw (drop_all i l b) at e

module _ {tokens : List ℕ} {next : ℕ} {out : List ℕ} {rs : Records} where
  pub pairing_start_lem : PairingAt tokens next rs out rs (record { held = None; at = 0; next = next }) 0 0
  pairing_start_lem = record { at = omega arith; more = omega arith; counted = record { is = λ h. absurd (h refl) }; is = refl }

  module _ {found : Records} {m : PairingFills} {i k : ℕ} (now : PairingAt tokens next found out rs m i k) where
    pub pairing_more : {out' : List ℕ} {rs' : Records} {m' : PairingFills} {r k' : ℕ} → i < length tokens → r ≡ chain_length (map decode (drop i tokens))
        → PairingStep (pair_token (pairing_in out rs m) (decode (get_or tokens i 0)) r) (pairing_in out' rs' m') m m' → k' ≡ r - 1
        → PairingAt tokens next found out' rs' m' (i + 1) k'
    pairing_more {r = r} {k' = k'} h run step less =
        record {
          at = omega (arith, now.at, step.at);
          more = omega (arith, now.more, step.next);
          counted = chain_less tokens i r k' run less h;
          is = tokens_on tokens i _ _ r step.is run now.is h;
        }

-- and the arrays of records stay as long as they were found
pub record LongPairing (tokens : List ℕ) (next : ℕ) (found : Records) (out : List ℕ) (rs : Records) (m : PairingFills) (i k : ℕ) : Type 0 where
  pub pairing : PairingAt tokens next found out rs m i k
  pub long : Long found → Long rs

module _ {tokens : List ℕ} {next : ℕ} {out : List ℕ} {rs : Records} where
  pub long_pairing_starts : LongPairing tokens next rs out rs (record { held = None; at = 0; next = next }) 0 0
  long_pairing_starts = record { pairing = pairing_start_lem; long = λ was. was }

  pub long_pairing_more : {found : Records} {m : PairingFills} {i k : ℕ} → LongPairing tokens next found out rs m i k → {out' : List ℕ} {rs' : Records} {m' : PairingFills} {r k' : ℕ} → i < length tokens
      → r ≡ chain_length (map decode (drop i tokens)) → (Long rs → Long rs') → PairingStep (pair_token (pairing_in out rs m) (decode (get_or tokens i 0)) r) (pairing_in out' rs' m') m m' → k' ≡ r - 1
      → LongPairing tokens next found out' rs' m' (i + 1) k'
  long_pairing_more now h run keeps step less = record { pairing = pairing_more now.pairing h run step less; long = λ was. keeps (now.long was) }

-- at the end they come to what compress leaves of the tree
pub pairing_end : {tokens : List ℕ} {next : ℕ} {found : Records} {out : List ℕ} {rs : Records} {m : PairingFills} {i k : ℕ} → PairingAt tokens next found out rs m i k → length tokens ≤ i
    → CompressedTo tokens next found out rs (record { at = m.at; next = m.next })
pairing_end {tokens} {next} {found} {i = i} now h =
    let es = entries_in found next in
    let ran = tokens_end tokens i now.is h in
    record { leaves = λ w e. record { tree = compressed_tree w es next e ran; records = compressed_records w es next e ran } }
