-- The steps over the tokens of a tree come to compress on the tree.
use Prim.Native.Nat.{ℕ, ◌+◌, ◌%◌}
use native.Mathlib.Nat.{add-zero}
use native.Mathlib.Omega.{arith}
use mathlib.Core.Path.{◌≡◌, refl, sym, ap, ◌∙◌}
use mathlib.Core.List.{List, [], ◌∷◌, ◌++◌, map, append-nil, append_assoc}
use Rattle.std.specs.Prelude.{None}
use borrow.Author.Tests.{eq-eqb, ne_eqb}
use lib.ListN.{length, length-append}
use Rattle.formula.specs.Formula.{Op, index}
use Rattle.contraction.specs.Records.{C_rec}
use Rattle.contraction.specs.Entries.{Entry, entry_of}
use Rattle.contraction.proofs.EntryLaws.{entries-append}
use Rattle.contraction.specs.Rounds.{Work, tip, one, two, compresses, compressed}
use Rattle.tree_tokens.specs.Tokens.{Token, single, double, flat}
use Rattle.tree_compress.specs.Pairing.{chain_length, Pairing, pair_tokens}

-- a chain that ends here is followed by an even number of its own nodes
abbrev Even : Work → List Token → Type 0
Even (tip d) ts = Unit {0}
Even (one d c) ts = chain_length ts % 2 ≡ 0
Even (two o l r) ts = Unit {0}

even : (w : Work) (ts : List Token) → chain_length ts % 2 ≡ 0 → Even w ts
even (tip d) ts e = tt
even (one d c) ts e = e
even (two o l r) ts e = tt

ungroup : (xs ys : List Token) (z : Token) (zs : List Token) → (xs ++ (ys ++ (z ∷ []))) ++ zs ≡ xs ++ (ys ++ (z ∷ zs))
ungroup xs ys z zs = simp append_assoc

-- a tree's first token is a leaf
first : (w : Work) (ts : List Token) → chain_length (flat w ++ ts) ≡ 0
first (tip d) ts = refl
first (one d c) ts = rw append_assoc (first c _)
first (two o l r) ts = ap chain_length (ungroup (flat l) (flat r) (double (index o)) ts) ∙ first l _

-- nothing is held
abbrev at : List Token → List Entry → ℕ → Pairing
at o rs n = record { held = None; out = o; made = rs; next = n }

-- before an even number of its own nodes, one more of a chain waits, and two more are a pair
waits : (u : ℕ) (o : List Token) (rs : List Entry) (n : ℕ) (ts : List Token) → chain_length ts % 2 ≡ 0
    → pair_tokens (at o rs n) (single u ∷ ts) ≡ pair_tokens (at (o ++ (single u ∷ [])) rs n) ts
waits u o rs n ts e = rw (ne_eqb ((chain_length ts + 1) % 2) 0 (λ q. omega arith))

paired : (u d : ℕ) (o : List Token) (rs : List Entry) (n : ℕ) (ts : List Token) → chain_length ts % 2 ≡ 0
    → pair_tokens (at o rs n) (single d ∷ single u ∷ ts) ≡ pair_tokens (at (o ++ (single n ∷ [])) (rs ++ (entry_of (C_rec u d) ∷ [])) (n + 1)) ts
paired u d o rs n ts e = rw (eq-eqb ((chain_length ts + 1 + 1) % 2) 0 (omega arith))

-- a tree is done
module _ (w : Work) (o : List Token) (rs : List Entry) (n : ℕ) (ts : List Token) where
  abbrev After : Type 0
  After = pair_tokens (at o rs n) (flat w ++ ts) ≡ pair_tokens (at (o ++ flat (compressed w n)) (rs ++ map entry_of (compresses w)) (n + length (compresses w))) ts

same : {a b : List Token} {c d : List Entry} {n m : ℕ} (ts : List Token) → a ≡ b → c ≡ d → n ≡ m → pair_tokens (at a c n) ts ≡ pair_tokens (at b d m) ts
same ts p q e = rw (p, q, e)

tip-after : (d : ℕ) (o : List Token) (rs : List Entry) (n : ℕ) (ts : List Token) → After (tip d) o rs n ts
tip-after d o rs n ts = same ts refl (sym (append-nil rs)) (sym (add-zero n))

alone-after : (u : ℕ) (c : Work) (o : List Token) (rs : List Entry) (n : ℕ) (ts : List Token) → chain_length ts % 2 ≡ 0 → After c o rs n (single u ∷ ts)
    → pair_tokens (at o rs n) (flat (one u c) ++ ts) ≡ pair_tokens (at (o ++ (flat (compressed c n) ++ (single u ∷ []))) (rs ++ map entry_of (compresses c)) (n + length (compresses c))) ts
alone-after u c o rs n ts e h =
    ap (pair_tokens (at o rs n)) (append_assoc (flat c) (single u ∷ []) ts) ∙ h ∙ waits u _ _ _ ts e
    ∙ same ts (append_assoc o (flat (compressed c n)) (single u ∷ [])) refl refl

pair-after : (u d : ℕ) (c : Work) (o : List Token) (rs : List Entry) (n : ℕ) (ts : List Token) → chain_length ts % 2 ≡ 0
    → After c o rs n (single d ∷ single u ∷ ts) → After (one u (one d c)) o rs n ts
pair-after u d c o rs n ts e h =
    ap (pair_tokens (at o rs n)) (append_assoc (flat (one d c)) (single u ∷ []) ts ∙ append_assoc (flat c) (single d ∷ []) (single u ∷ ts)) ∙ h
    ∙ paired u d _ _ _ ts e
    ∙ same ts (append_assoc o (flat (compressed c n)) _) (entries-append rs (compresses c) (C_rec u d ∷ [])) (omega (arith, length-append (compresses c) (C_rec u d ∷ [])))

two-after : (p : Op) (l r : Work) (o : List Token) (rs : List Entry) (n : ℕ) (ts : List Token) → After l o rs n (flat r ++ (double (index p) ∷ ts))
    → After r (o ++ flat (compressed l n)) (rs ++ map entry_of (compresses l)) (n + length (compresses l)) (double (index p) ∷ ts) → After (two p l r) o rs n ts
two-after p l r o rs n ts hl hr =
    let fl = flat (compressed l n) in
    let fr = flat (compressed r (n + length (compresses l))) in
    ap (pair_tokens (at o rs n)) (ungroup (flat l) (flat r) (double (index p)) ts) ∙ hl ∙ hr
    ∙ same ts (append_assoc (o ++ fl) fr (double (index p) ∷ []) ∙ append_assoc o fl _) (entries-append rs (compresses l) (compresses r))
    (omega (arith, length-append (compresses l) (compresses r)))

pair_tree : (w : Work) (o : List Token) (rs : List Entry) (n : ℕ) (ts : List Token) → Even w ts → After w o rs n ts
pair_tree (tip d) o rs n ts e = tip-after d o rs n ts
pair_tree (one u (tip d)) o rs n ts e = alone-after u (tip d) o rs n ts e (tip-after d o rs n (single u ∷ ts))
pair_tree (one u (two p l r)) o rs n ts e =
    alone-after u (two p l r) o rs n ts e (pair_tree (two p l r) o rs n (single u ∷ ts) tt)
pair_tree (one u (one d c)) o rs n ts e =
    pair-after u d c o rs n ts e (pair_tree c o rs n (single d ∷ single u ∷ ts) (even c (single d ∷ single u ∷ ts) (omega arith)))
pair_tree (two p l r) o rs n ts e =
    two-after p l r o rs n ts
    (pair_tree l o rs n (flat r ++ (double (index p) ∷ ts)) (even l (flat r ++ (double (index p) ∷ ts)) (ap (λ (k : ℕ). k % 2) (first r (double (index p) ∷ ts)))))
    (pair_tree r (o ++ flat (compressed l n)) (rs ++ map entry_of (compresses l)) (n + length (compresses l)) (double (index p) ∷ ts) (even r (double (index p) ∷ ts) refl))

-- the whole pass
module _ (w : Work) (rs : List Entry) (n : ℕ) {ts : List Token} {σ : Pairing} (e : ts ≡ flat w) (ran : σ ≡ pair_tokens (record { held = None; out = []; made = rs; next = n }) ts) where
  ran_done : σ ≡ at (flat (compressed w n)) (rs ++ map entry_of (compresses w)) (n + length (compresses w))
  ran_done = (rw e at ran) ∙ ap (pair_tokens (at [] rs n)) (sym (append-nil (flat w))) ∙ pair_tree w [] rs n [] (even w [] refl)

  pub compressed_tree : σ.out ≡ flat (compressed w n)
  compressed_tree = ap (λ (s : Pairing). s.out) ran_done

  pub compressed_records : σ.made ≡ rs ++ map entry_of (compresses w)
  compressed_records = ap (λ (s : Pairing). s.made) ran_done
