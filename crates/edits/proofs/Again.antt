-- An edit moves no node: whatever said where everything stands still says so, and each position keeps its node.
use Prim.Native.Nat.{ℕ, zero, suc, ◌+◌}
use native.Mathlib.Omega.{arith}
use mathlib.Core.Path.{◌≡◌, refl, sym, ap, ap₂, ◌∙◌}
use mathlib.Core.Bool.{cond}
use mathlib.Core.Logic.{◌⊎◌, inl, inr}
use mathlib.Core.List.{List, [], ◌∷◌}
use lib.ListN.{length, get_or}
use Rattle.formula.specs.Formula.{Op, Formula, leaf, node, leaves}
use Rattle.contraction.specs.Records.{Kind, leaf as leaf_kind, E, R, S, C, Rec}
use Rattle.contraction.specs.Rounds.{dwarf, planted, enough}
use Rattle.edits.specs.Edits.{size, remade, only, edited, node_at}
use Rattle.edits.specs.Changes.{no_rec, operations, rekind, reop}
use Rattle.edits.specs.Spots.{own, Ups, LeafSpots, works, operates, ups_of, spots}
use Rattle.contraction.proofs.Rounds.{all_made}
use Rattle.edits.proofs.Spots.{Spots, fixed, length-fixed, all-re, leaves-remade, Placed, start, enough-same, sib, dwarf-remade}
use Rattle.edits.proofs.Standing.{spots-placed}
use Rattle.edits.proofs.Edits.{node-placed, node-none}
use Rattle.edits.proofs.Codes.{size-remade, one_or-none}

-- it is E or R as before
works-rekind : (h : Op → Op) (k : Kind) → works (rekind h k) ≡ works k
works-rekind h leaf_kind = refl
works-rekind h (E o) = refl
works-rekind h (R side o) = refl
works-rekind h S = refl
works-rekind h C = refl

pub operates-reop : (h : Op → Op) (r : Rec) → operates (reop h r) ≡ operates r
operates-reop h r = works-rekind h r.kind

module _ (ups es : List ℕ) (g : ℕ → Op → Op) where
  spots-fixed : (rs : List Rec) (n : ℕ) → Spots ups es n rs → Spots ups es n (fixed ups es g n rs)
  spots-fixed [] n h = tt
  spots-fixed (r ∷ rs) n h = (
    h.0 ∙ ap (λ b. cond b (get_or ups (get_or es r.first 0) 0) (get_or es r.first 0)) (sym (works-rekind (g (get_or es n 0)) r.kind)),
    spots-fixed rs (suc n) h.1,
  )

  operates-fixed : (rs : List Rec) (n i : ℕ) → operates (get_or (fixed ups es g n rs) i no_rec) ≡ operates (get_or rs i no_rec)
  operates-fixed [] n i = refl
  operates-fixed (r ∷ rs) n zero = operates-reop (g (get_or es n 0)) r
  operates-fixed (r ∷ rs) n (suc i) = operates-fixed rs (suc n) i

  own-remade : (f : Formula) (p : ℕ) → own p (remade g p f) ≡ own p f
  own-remade (leaf s) p = refl
  own-remade (node o l r) p = ap₂ (λ a b. p + (a + b)) (size-remade g l p) (size-remade g r (p + size l))

  ups_remade : (f : Formula) (p : ℕ) → Ups ups p f → Ups ups p (remade g p f)
  ups_remade (leaf s) p u = tt
  ups_remade (node o l r) p u =
      rw (size-remade g l p, size-remade g r (p + size l), own-remade l p, own-remade r (p + size l))
      (u.0, u.1, ups_remade l p u.2, ups_remade r (p + size l) u.3)

  leaves-stand : (f : Formula) (p n : ℕ) → LeafSpots es p n f → LeafSpots es p n (remade g p f)
  leaves-stand (leaf s) p n h = h
  leaves-stand (node o l r) p n h =
      rw (size-remade g l p, leaves-remade ups es g l p) (leaves-stand l p n h.0, leaves-stand r (p + size l) (n + leaves l) h.1)

  operations-remade : (f : Formula) (q p : ℕ) → operations q p (remade g p f) ≡ operations q p f
  operations-remade (leaf s) q p = refl
  operations-remade (node o l r) q p =
      rw (size-remade g l p, size-remade g r (p + size l), operations-remade l q p, operations-remade r q (p + size l))

  placed-remade : (f : Formula) → Placed ups es f → Placed ups es (remade g 0 f)
  placed-remade f h =
      record {
        over = ups_remade f 0 h.over;
        at_leaves = leaves-stand f 0 0 h.at_leaves;
        at_made =
            rw (
              enough-same ups es g f h,
              start ups es g f h,
              leaves-remade ups es g f 0,
              all-re ups es g (enough f) (planted f 0) (leaves f) (sib ups es g f h) h.at_made,
            )
            (spots-fixed (all_made (enough f) (planted f 0) (leaves f)) (leaves f) h.at_made);
      }

  node-remade : (f : Formula) (q : ℕ) → Placed ups es f → operations q 0 f ≡ 1 → node_at (remade g 0 f) q ≡ node_at f q
  node-remade f q h e =
      let b = node-placed ups es (remade g 0 f) q (placed-remade f h) (operations-remade f q 0 ∙ e) in
      let d = dwarf-remade ups es g f h in
      let i = node_at (remade g 0 f) q in
      (node-placed ups es f q h e).alone i (omega (arith, b.inside, ap length d, length-fixed ups es g (dwarf f) 0))
      (sym (operates-fixed (dwarf f) 0 i) ∙ ap (λ rs. operates (get_or rs i no_rec)) (sym d) ∙ b.works) b.stands

-- An operation keeps its node, whatever was edited before.
node-edited : (f : Formula) (p q : ℕ) (o : Op) → operations q 0 f ≡ 1 → node_at (edited p o f) q ≡ node_at f q
node-edited f p q o e = node-remade (ups_of 0 0 f) (spots f) (only p o) f q (spots-placed f) e

pub operations-edited : (f : Formula) (p q : ℕ) (o : Op) → operations q 0 (edited p o f) ≡ operations q 0 f
operations-edited f p q o = operations-remade [] [] (only p o) f q 0

-- So does every position: where there is no operation there is no node.
pub node-all : (f : Formula) (p q : ℕ) (o : Op) → node_at (edited p o f) q ≡ node_at f q
node-all f p q o = go (one_or-none f 0 q)
  where
    go : (operations q 0 f ≡ 0) ⊎ (operations q 0 f ≡ 1) → node_at (edited p o f) q ≡ node_at f q
    go (inl e) = node-none (edited p o f) q (operations-edited f p q o ∙ e) ∙ sym (node-none f q e)
    go (inr e) = node-edited f p q o e
