-- One operation changed: the dwarf tree is the same but for the kind of one record, that of the operation's node.
use Prim.Native.Nat.{ℕ, zero, suc, ◌+◌, ◌<◌}
use native.Mathlib.Nat.{add-zero, zero-add}
use native.Mathlib.Omega.{arith}
use mathlib.Core.Path.{◌≡◌, refl, sym, ap, ap₂, ◌∙◌}
use mathlib.Core.Bool.{Bool, true, false, cond, ◌&&◌}
use mathlib.Core.List.{List, [], ◌∷◌, ◌++◌}
use lib.Dec.{eqb}
use lib.ListN.{length, get_or, set}
use borrow.Author.Tests.{eqb-true, eq-eqb}
use Rattle.formula.specs.Formula.{Op, union, intersection, Formula, leaf, node}
use Rattle.contraction.specs.Records.{left, right, Kind, leaf as leaf_kind, E, R, S, C, number, Rec, absent, below, children}
use Rattle.contraction.specs.Rounds.{dwarf, rounds_of}
use Rattle.contraction.specs.Height.{worked, longest, path, height, last}
use Rattle.edits.specs.Edits.{size, remade, only, edited, apart, node_at}
use Rattle.edits.specs.Changes.{no_rec, operations, rekind, reop, with_op}
use Rattle.edits.specs.Spots.{ups_of, spots, works, operates}
use Rattle.edits.proofs.Spots.{fixed, length-fixed, Placed, dwarf-remade, rounds-remade}
use Rattle.edits.proofs.Single.{count, standing, dwarf-standing}
use Rattle.edits.proofs.Standing.{spots-placed}

-- ---- kinds over another operation
rekind-same : (k : Kind) → rekind (λ x. x) k ≡ k
rekind-same leaf_kind = refl
rekind-same (E o) = refl
rekind-same (R side o) = refl
rekind-same S = refl
rekind-same C = refl

-- one that is neither E nor R has no operation
rekind-none : (h : Op → Op) (k : Kind) → works k ≡ false → rekind h k ≡ k
rekind-none h leaf_kind e = refl
rekind-none h (E o) e = cc
rekind-none h (R side o) e = cc
rekind-none h S e = refl
rekind-none h C e = refl

-- two operations make two kinds of the others
rekind-two : (k : Kind) → works k ≡ true → eqb (number (rekind (λ x. union) k)) (number (rekind (λ x. intersection) k)) ≡ false
rekind-two leaf_kind e = cc
rekind-two (E o) e = refl
rekind-two (R left o) e = refl
rekind-two (R right o) e = refl
rekind-two S e = cc
rekind-two C e = cc

-- the same nodes stand under it
below-rekind : (h : Op → Op) (k : Kind) (a b : ℕ) → below (rekind h k) a b ≡ below k a b
below-rekind h leaf_kind a b = refl
below-rekind h (E o) a b = refl
below-rekind h (R side o) a b = refl
below-rekind h S a b = refl
below-rekind h C a b = refl

pub children-reop : (h : Op → Op) (r : Rec) → children (reop h r) ≡ children r
children-reop h r = below-rekind h r.kind r.first r.second

-- ---- the node of a position
reop_kind : (h : Op → Op) (r : Rec) → rekind h r.kind ≡ r.kind → reop h r ≡ r
reop_kind h r e = rw e

module _ (ups es : List ℕ) (p : ℕ) where
  -- a record that does not stand at p stays
  stays : (o : Op) (r : Rec) (q : ℕ) → count (operates r && eqb p q) ≡ 0 → reop (only p o q) r ≡ r
  stays o r q z = go (operates r) refl (eqb p q) refl
    where
      go : (a : Bool) → operates r ≡ a → (b : Bool) → eqb p q ≡ b → reop (only p o q) r ≡ r
      go false e b s = reop_kind (only p o q) r (rekind-none (only p o q) r.kind e)
      go true e false s = ap (λ b. reop (λ x. cond b o x) r) s ∙ reop_kind (λ x. x) r (rekind-same r.kind)
      go true e true s = absurd (omega (arith, (rw (e, s) at z)))

  none_change : (o : Op) (rs : List Rec) (n : ℕ) → standing ups es p n rs ≡ 0 → fixed ups es (only p o) n rs ≡ rs
  none_change o [] n z = refl
  none_change o (r ∷ rs) n z = ap₂ ◌∷◌ (stays o r (get_or es n 0) (omega arith)) (none_change o rs (suc n) (omega arith))

  pub none-stand : (rs : List Rec) (n j : ℕ) → standing ups es p n rs ≡ 0 → j < length rs → operates (get_or rs j no_rec) ≡ true → get_or es (n + j) 0 ≡ p → ⊥
  none-stand [] n j z l w e = omega arith
  none-stand (r ∷ rs) n zero z l w e =
      let s : eqb p (get_or es n 0) ≡ true = eq-eqb p (get_or es n 0) (sym e ∙ ap (λ k. get_or es k 0) (add-zero n)) in
      omega (arith, (rw (w, s) at z))
  none-stand (r ∷ rs) n (suc j) z l w e = none-stand rs (suc n) j (omega arith) (omega arith) w (ap (λ k. get_or es k 0) (omega arith) ∙ e)

  -- record i, of those numbered from n on, is the one that stands at p
  pub record Node (rs : List Rec) (n i : ℕ) : Type 0 where
    pub inside : i < length rs
    pub stands : get_or es (n + i) 0 ≡ p
    pub works : operates (get_or rs i no_rec) ≡ true
    pub changes : (o : Op) → fixed ups es (only p o) n rs ≡ set rs i (with_op o (get_or rs i no_rec))
    pub alone : (j : ℕ) → j < length rs → operates (get_or rs j no_rec) ≡ true → get_or es (n + j) 0 ≡ p → j ≡ i

  first-node : (r : Rec) (rs : List Rec) (n : ℕ) → operates r ≡ true → eqb p (get_or es n 0) ≡ true → standing ups es p (suc n) rs ≡ 0 → Node (r ∷ rs) n 0
  first-node r rs n w e z =
      record {
        inside = omega arith;
        stands = ap (λ k. get_or es k 0) (add-zero n) ∙ sym (eqb-true p (get_or es n 0) e);
        works = w;
        changes = λ o. ap₂ ◌∷◌ (ap (λ b. reop (λ x. cond b o x) r) e) (none_change o rs (suc n) z);
        alone = one;
      }
    where
      one : (j : ℕ) → j < length (r ∷ rs) → operates (get_or (r ∷ rs) j no_rec) ≡ true → get_or es (n + j) 0 ≡ p → j ≡ 0
      one zero l v s = refl
      one (suc j) l v s = absurd (none-stand rs (suc n) j z (omega arith) v (ap (λ k. get_or es k 0) (omega arith) ∙ s))

  next-node : (r : Rec) (rs : List Rec) (n i : ℕ) → count (operates r && eqb p (get_or es n 0)) ≡ 0 → Node rs (suc n) i → Node (r ∷ rs) n (suc i)
  next-node r rs n i z h =
      record {
        inside = omega (arith, h.inside);
        stands = ap (λ k. get_or es k 0) (omega arith) ∙ h.stands;
        works = h.works;
        changes = λ o. ap₂ ◌∷◌ (stays o r (get_or es n 0) z) (h.changes o);
        alone = one;
      }
    where
      one : (j : ℕ) → j < length (r ∷ rs) → operates (get_or (r ∷ rs) j no_rec) ≡ true → get_or es (n + j) 0 ≡ p → j ≡ suc i
      one zero l v s = absurd (none-stand (r ∷ []) n 0 (omega arith) (omega arith) v s)
      one (suc j) l v s = ap suc (h.alone j (omega arith) v (ap (λ k. get_or es k 0) (omega arith) ∙ s))

  find : (rs : List Rec) (n : ℕ) → standing ups es p n rs ≡ 1 → (i : ℕ) × Node rs n i
  find [] n z = absurd (omega arith)
  find (r ∷ rs) n z = go (find rs (suc n)) (operates r) refl (eqb p (get_or es n 0)) refl
    where
      go : (standing ups es p (suc n) rs ≡ 1 → (i : ℕ) × Node rs (suc n) i) → (a : Bool) → operates r ≡ a → (b : Bool) → eqb p (get_or es n 0) ≡ b → (i : ℕ) × Node (r ∷ rs) n i
      go h true e true s = (0, first-node r rs n e s (omega (arith, (rw (e, s) at z))))
      go h true e false s =
          let q = h (rw (zero-add) at (rw (e, s) at z)) in
          (suc q.0, next-node r rs n q.0 (rw (e, s)) q.1)
      go h false e b s =
          let q = h (rw (zero-add) at (rw (e) at z)) in
          (suc q.0, next-node r rs n q.0 (rw (e)) q.1)

-- the first difference
apart-set : (rs : List Rec) (n i : ℕ) → i < length rs → operates (get_or rs i no_rec) ≡ true
    → apart n (set rs i (with_op union (get_or rs i no_rec))) (set rs i (with_op intersection (get_or rs i no_rec))) ≡ n + i
unfolding apart
apart-set [] n i l w = absurd (omega arith)
apart-set (r ∷ rs) n zero l w =
    rw (apart, rekind-two r.kind w) (sym (add-zero n))
apart-set (r ∷ rs) n (suc i) l w =
    rw (apart, eq-eqb (number r.kind) (number r.kind) refl) (apart-set rs (suc n) i (omega arith) w ∙ omega arith)

apart-same : (rs : List Rec) (n : ℕ) → apart n rs rs ≡ absent
unfolding apart
apart-same [] n = refl
apart-same (r ∷ rs) n = rw (apart, eq-eqb (number r.kind) (number r.kind) refl) (apart-same rs (suc n))

-- ---- The theorems
-- Wherever lists say where everything stands, the node of an operation's position is the one E or R that stands there.
pub node-placed : (ups es : List ℕ) (f : Formula) (p : ℕ) → Placed ups es f → operations p 0 f ≡ 1 → Node ups es p (dwarf f) 0 (node_at f p)
unfolding node_at
node-placed ups es f p h e =
    let q = find ups es p (dwarf f) 0 (dwarf-standing ups es p f h ∙ e) in
    let i = q.0 in
    let z : node_at f p ≡ i =
    rw (dwarf-remade ups es (only p union) f h, dwarf-remade ups es (only p intersection) f h, q.1.changes union, q.1.changes intersection)
    (apart-set (dwarf f) 0 i q.1.inside q.1.works ∙ zero-add i) in
    rw z q.1

module _ (f : Formula) (p : ℕ) where
  at-spots : operations p 0 f ≡ 1 → Node (ups_of 0 0 f) (spots f) p (dwarf f) 0 (node_at f p)
  at-spots e = node-placed (ups_of 0 0 f) (spots f) f p (spots-placed f) e

  -- It is one of the dwarf nodes, E or R.
  pub node-inside : operations p 0 f ≡ 1 → node_at f p < length (dwarf f)
  node-inside e = (at-spots e).inside

  pub node-operates : operations p 0 f ≡ 1 → operates (get_or (dwarf f) (node_at f p) no_rec) ≡ true
  node-operates e = (at-spots e).works

module _ (f : Formula) (p : ℕ) (o : Op) where
  -- An edit changes no round, no number, no first and no second: only the kind of the one record of its node.
  pub edited-dwarf : operations p 0 f ≡ 1 → dwarf (edited p o f) ≡ set (dwarf f) (node_at f p) (with_op o (get_or (dwarf f) (node_at f p) no_rec))
  edited-dwarf e = dwarf-remade (ups_of 0 0 f) (spots f) (only p o) f (spots-placed f) ∙ (at-spots f p e).changes o

  pub edited-rounds : rounds_of (edited p o f) ≡ rounds_of f
  edited-rounds = rounds-remade (ups_of 0 0 f) (spots f) (only p o) f (spots-placed f)

  pub edited-nodes : length (dwarf (edited p o f)) ≡ length (dwarf f)
  edited-nodes = ap length (dwarf-remade (ups_of 0 0 f) (spots f) (only p o) f (spots-placed f)) ∙ length-fixed (ups_of 0 0 f) (spots f) (only p o) (dwarf f) 0

module _ (ups es : List ℕ) (g : ℕ → Op → Op) where
  paths-fixed : (rs : List Rec) (n : ℕ) (xs : List ℕ) → worked path xs (fixed ups es g n rs) ≡ worked path xs rs
  paths-fixed [] n xs = refl
  paths-fixed (r ∷ rs) n xs =
      ap (λ cs. worked path (xs ++ (longest xs cs ∷ [])) (fixed ups es g (suc n) rs)) (children-reop (g (get_or es n 0)) r)
      ∙ paths-fixed rs (suc n) (xs ++ (path xs r ∷ []))

pub edited-height : (f : Formula) (p : ℕ) (o : Op) → height (dwarf (edited p o f)) ≡ height (dwarf f)
edited-height f p o =
    ap height (dwarf-remade (ups_of 0 0 f) (spots f) (only p o) f (spots-placed f))
    ∙ ap last (paths-fixed (ups_of 0 0 f) (spots f) (only p o) (dwarf f) 0 [])

-- ---- where no operation stands
pub none-remade : (f : Formula) (p q : ℕ) (o : Op) → operations q p f ≡ 0 → remade (only q o) p f ≡ f
none-remade (leaf s) p q o e = refl
none-remade (node x l r) p q o e = go (eqb q (p + (size l + size r))) refl (none-remade l p q o) (none-remade r (p + size l) q o)
  where
    go : (b : Bool) → eqb q (p + (size l + size r)) ≡ b → (operations q p l ≡ 0 → remade (only q o) p l ≡ l) → (operations q (p + size l) r ≡ 0 → remade (only q o) (p + size l) r ≡ r)
        → remade (only q o) p (node x l r) ≡ node x l r
    go true z u v = absurd (omega (arith, (rw z at e)))
    go false z u v = rw (z, u (omega arith), v (omega arith))

edited-none : (f : Formula) (p : ℕ) (o : Op) → operations p 0 f ≡ 0 → edited p o f ≡ f
edited-none f p o e = none-remade f 0 p o e

pub node-none : (f : Formula) (p : ℕ) → operations p 0 f ≡ 0 → node_at f p ≡ absent
unfolding node_at
node-none f p e = rw (edited-none f p union e, edited-none f p intersection e) (apart-same (dwarf f) 0)
