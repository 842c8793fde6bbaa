-- Laws of the steps: what a push and a pop do to the stack, and what each way through a step comes to.
use Prim.Native.Nat.{ℕ, zero, suc, ◌+◌, ◌-◌, ◌≤◌, ◌<◌}
use native.Mathlib.Numerals.{add-one, sub-one}
use native.Mathlib.Omega.{arith}
use mathlib.Core.Path.{◌≡◌, refl, sym, ap, ◌∙◌}
use mathlib.Core.List.{List, [], ◌∷◌, ◌++◌, map, foldl, foldl-append}
use lib.ListN.{length, get_or, set}
use lib.Seq.{get_or-set_same, get_or-set_other}
use Rattle.contraction.specs.Entries.{Entry, entry}
use Rattle.contraction.specs.declared.Records.{Records}
use Rattle.tree_tokens.specs.Tokens.{decode, present, toks, entries_in, Long}
use Rattle.tree_tokens.proofs.TokensLaws.{toks-all, toks-next, decode-bare, decode-double, decode-new, present-none, present_some}
use Rattle.tree_rake.specs.Raking.{Raking, kept, makes, rake_token, operands, raking_in, raking_start, RakingStep, RakedTo}
use Rattle.tree_rake.specs.declared.RakingFills.{RakingFills}
use Rattle.tree_rake.proofs.Trees.{raked_tree, raked_records}

-- ---- the stack
operands_keep : (l : List ℕ) (i v n : ℕ) → n ≤ i → operands (set l i v) n ≡ operands l n
operands_keep l i v zero h = refl
operands_keep l i v (suc n) h = rw (get_or-set_other l i n v 0 (omega arith), operands_keep l i v n (omega arith))

operands_push : (l : List ℕ) (n v : ℕ) → n < length l → operands (set l n v) (n + 1) ≡ present v ∷ operands l n
operands_push l n v h = rw (add-one, get_or-set_same l n v 0 h, operands_keep l n v n (omega arith))

operands_pop : (l : List ℕ) (n : ℕ) → 0 < n → operands l n ≡ present (get_or l (n - 1) 0) ∷ operands l (n - 1)
operands_pop l zero h = elim h [ ]
operands_pop l (suc n) h = rw (sub-one)

operands_pop2 : (l : List ℕ) (n : ℕ) → 2 ≤ n → operands l n ≡ present (get_or l (n - 1) 0) ∷ present (get_or l (n - 2) 0) ∷ operands l (n - 2)
operands_pop2 l n z = let e : n - 1 - 1 ≡ n - 2 = omega arith in operands_pop l n (omega arith) ∙ rw (operands_pop l (n - 1) (omega arith), e)

-- ---- a token out, and a record besides
pub view_keep : (out out' st : List ℕ) (m : RakingFills) (t : ℕ) → toks out' (m.at + 1) ≡ toks out m.at ++ (decode t ∷ []) → m.top < length st
    → (rs : Records) → raking_in out' (set st m.top 65535) rs (record { top = m.top + 1; at = m.at + 1; next = m.next }) ≡ kept (decode t) (raking_in out st rs m)
view_keep out out' st m t e h rs = rw (e, operands_push st m.top 65535 h)

pub view_make : {σ : Raking} (out st : List ℕ) (rs rs' : Records) (m : RakingFills) (t : ℕ) (r : Entry) → entries_in rs' (m.next + 1) ≡ entries_in rs m.next ++ (r ∷ [])
    → σ ≡ kept (decode t) (raking_in out st rs' (record { top = m.top; at = m.at; next = m.next + 1 })) → σ ≡ makes r (decode t) (raking_in out st rs m)
view_make out st rs rs' m t r e q = q ∙ rw e

-- ---- a two-child node's step, by what stands on the stack. r is what a callee left, as its contract says it
module _ (out st : List ℕ) (rs : Records) (m : RakingFills) (t : ℕ) where
  abbrev σ : Raking
  σ = raking_in out st rs m

  -- with the last k operands taken
  abbrev less : ℕ → Raking
  less k = raking_in out st rs (record { top = m.top - k; at = m.at; next = m.next })

  module _ {r : Raking} (h : 0xFFF0 ≤ t) (z : 2 ≤ m.top) where
    pub two_right : (get_or st (m.top - 1) 0 ≡ 65535 → ⊥) → get_or st (m.top - 2) 0 ≡ 65535 → m.next < 3072
        → r ≡ makes (entry (9 + (t - 0xFFF0)) (get_or st (m.top - 1) 0) 65535) (decode (4096 + m.next)) (less 2) → r ≡ rake_token σ (decode t)
    two_right y x b e = e ∙ rw (decode-double t h, operands_pop2 st m.top z, present_some _ y, present-none _ x, decode-new m.next b)

    pub two_left : get_or st (m.top - 1) 0 ≡ 65535 → (get_or st (m.top - 2) 0 ≡ 65535 → ⊥) → m.next < 3072
        → r ≡ makes (entry (5 + (t - 0xFFF0)) (get_or st (m.top - 2) 0) 65535) (decode (4096 + m.next)) (less 2) → r ≡ rake_token σ (decode t)
    two_left y x b e = e ∙ rw (decode-double t h, operands_pop2 st m.top z, present-none _ y, present_some _ x, decode-new m.next b)

    pub two_both : (get_or st (m.top - 1) 0 ≡ 65535 → ⊥) → (get_or st (m.top - 2) 0 ≡ 65535 → ⊥) → m.next < 3072
        → r ≡ makes (entry (1 + (t - 0xFFF0)) (get_or st (m.top - 2) 0) (get_or st (m.top - 1) 0)) (decode m.next) (less 2) → r ≡ rake_token σ (decode t)
    two_both y x b e = e ∙ rw (decode-double t h, operands_pop2 st m.top z, present_some _ y, present_some _ x, decode-bare m.next (omega arith))

  pub bare_step : m.top < length st → t < 4096 → raking_in out (set st m.top t) rs (record { top = m.top + 1; at = m.at; next = m.next }) ≡ rake_token σ (decode t)
  bare_step b h = rw (operands_push st m.top t b, decode-bare t h, present_some t (λ q. omega arith))

-- ---- the loop: the arrays hold what the steps come to after the first i tokens, and no array is filled further than i
pub record RakingAt (tokens : List ℕ) (next : ℕ) (found : Records) (out st : List ℕ) (rs : Records) (m : RakingFills) (i : ℕ) : Type 0 where
  pub top : m.top ≤ i
  pub at : m.at ≤ i
  pub more : m.next ≤ next + i
  pub is : raking_in out st rs m ≡ foldl rake_token (raking_start found next) (toks tokens i)

run_next : (σ₀ : Raking) (l : List ℕ) (i : ℕ) {σ r : Raking} → r ≡ rake_token σ (decode (get_or l i 0)) → σ ≡ foldl rake_token σ₀ (toks l i) → i < length l → r ≡ foldl rake_token σ₀ (toks l (i + 1))
run_next σ₀ l i q e h = q ∙ ap (λ (s : Raking). rake_token s (decode (get_or l i 0))) e ∙ rw (toks-next l i h) (sym (foldl-append rake_token σ₀ (toks l i) (decode (get_or l i 0) ∷ [])))

module _ {tokens : List ℕ} {next : ℕ} {out st : List ℕ} {rs : Records} where
  pub raking_start_lem : RakingAt tokens next rs out st rs (record { top = 0; at = 0; next = next }) 0
  raking_start_lem = record { top = omega arith; at = omega arith; more = omega arith; is = refl }

  module _ {found : Records} {m : RakingFills} {i : ℕ} (now : RakingAt tokens next found out st rs m i) where
    pub raking_next : {out' st' : List ℕ} {rs' : Records} {r : RakingFills} → i < length tokens
        → RakingStep (rake_token (raking_in out st rs m) (decode (get_or tokens i 0))) (raking_in out' st' rs' r) m r
        → RakingAt tokens next found out' st' rs' r (i + 1)
    raking_next h step =
        record {
          top = omega (arith, now.top, step.top);
          at = omega (arith, now.at, step.at);
          more = omega (arith, now.more, step.next);
          is = run_next _ tokens i step.is now.is h;
        }

-- and the arrays of records stay as long as they were found
pub record LongRaking (tokens : List ℕ) (next : ℕ) (found : Records) (out st : List ℕ) (rs : Records) (m : RakingFills) (i : ℕ) : Type 0 where
  pub raking : RakingAt tokens next found out st rs m i
  pub long : Long found → Long rs

module _ {tokens : List ℕ} {next : ℕ} {out st : List ℕ} {rs : Records} where
  pub long_raking_starts : LongRaking tokens next rs out st rs (record { top = 0; at = 0; next = next }) 0
  long_raking_starts = record { raking = raking_start_lem; long = λ was. was }

  pub long_raking_next : {found : Records} {m : RakingFills} {i : ℕ} → LongRaking tokens next found out st rs m i → {out' st' : List ℕ} {rs' : Records} {r : RakingFills} → i < length tokens → (Long rs → Long rs')
      → RakingStep (rake_token (raking_in out st rs m) (decode (get_or tokens i 0))) (raking_in out' st' rs' r) m r
      → LongRaking tokens next found out' st' rs' r (i + 1)
  long_raking_next now h keeps step = record { raking = raking_next now.raking h step; long = λ was. keeps (now.long was) }

-- at the end they hold what rake leaves of the tree
pub raking_end : {tokens : List ℕ} {next : ℕ} {found : Records} {out st : List ℕ} {rs : Records} {m : RakingFills} {i : ℕ} → RakingAt tokens next found out st rs m i → length tokens ≤ i
    → RakedTo tokens next found out rs (record { at = m.at; next = m.next })
raking_end {tokens} {next} {found} {i = i} now enough =
    let all : toks tokens i ≡ map decode tokens = toks-all tokens i enough in
    let es = entries_in found next in
    record { leaves = λ w e many. record { tree = raked_tree w es next many e (rw all at now.is); records = raked_records w es next many e (rw all at now.is) } }
