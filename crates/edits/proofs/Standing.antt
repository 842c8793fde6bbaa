-- The lists of `specs/Spots.antt` say where everything stands.
use Prim.Native.Nat.{ℕ, suc, ◌+◌, ◌<◌}
use native.Mathlib.Nat.{add-zero, zero-add, add-suc, suc-add}
use native.Mathlib.Omega.{arith}
use mathlib.Core.Path.{◌≡◌, refl, sym, ap, ◌∙◌}
use mathlib.Core.List.{List, [], ◌∷◌, ◌++◌}
use lib.ListN.{length, get_or, length-append}
use Rattle.formula.specs.Formula.{Formula, leaf, node, leaves}
use Rattle.contraction.specs.Records.{Rec}
use Rattle.contraction.specs.Rounds.{planted, leaf_recs, enough}
use Rattle.contraction.specs.Height.{worked}
use Rattle.contraction.specs.Terms.{Each}
use Rattle.edits.specs.Edits.{size}
use Rattle.edits.specs.Spots.{own, Ups, LeafSpots, spot, ups_of, leaf_spots, spots}
use Rattle.contraction.proofs.Rounds.{all_made, made_all, dwarf-all, length-leaf_recs}
use Rattle.contraction.proofs.Worked.{Steady, keeps, worked_good}
use Rattle.contraction.proofs.Order.{Kinds, dwarf_each}
use Rattle.contraction.proofs.Leaves.{NoLeaf, made_none}
use Rattle.edits.proofs.Spots.{Placed}

-- from n on the list reads ys
module _ (xs : List ℕ) where
  abbrev Reads : ℕ → List ℕ → Type 0
  Reads n [] = Unit {0}
  Reads n (y ∷ ys) = (get_or xs n 0 ≡ y) × Reads (suc n) ys

  reads_left : (ys zs : List ℕ) (n : ℕ) → Reads n (ys ++ zs) → Reads n ys
  reads_left [] zs n h = tt
  reads_left (y ∷ ys) zs n h = (h.0, reads_left ys zs (suc n) h.1)

  reads_right : (ys zs : List ℕ) (n : ℕ) → Reads n (ys ++ zs) → Reads (n + length ys) zs
  reads_right [] zs n h = rw add-zero h
  reads_right (y ∷ ys) zs n h = rw (add-suc, ← suc-add) (reads_right ys zs (suc n) h.1)

  reads_same : (ys : List ℕ) (n : ℕ) → ((i : ℕ) → i < length ys → get_or xs (n + i) 0 ≡ get_or ys i 0) → Reads n ys
  reads_same [] n h = tt
  reads_same (y ∷ ys) n h = (
    ap (λ k. get_or xs k 0) (sym (add-zero n)) ∙ h 0 (omega arith),
    reads_same ys (suc n) (λ i l. ap (λ k. get_or xs k 0) (omega arith) ∙ h (suc i) (omega arith)),
  )

length-ups_of : (f : Formula) (top p : ℕ) → length (ups_of top p f) ≡ size f
length-ups_of (leaf s) top p = refl
length-ups_of (node o l r) top p =
    let m = p + (size l + size r) in
    let z = ups_of m (p + size l) r in
    omega (arith, length-append (ups_of m p l) (z ++ (top ∷ [])), length-append z (top ∷ []), length-ups_of l m p, length-ups_of r m (p + size l))

length-leaf_spots : (f : Formula) (p : ℕ) → length (leaf_spots p f) ≡ leaves f
length-leaf_spots (leaf s) p = refl
length-leaf_spots (node o l r) p = omega (arith, length-append (leaf_spots p l) (leaf_spots (p + size l) r), length-leaf_spots l p, length-leaf_spots r (p + size l))

ups_read : (xs : List ℕ) (f : Formula) (top p : ℕ) → Reads xs p (ups_of top p f) → Ups xs p f × (get_or xs (own p f) 0 ≡ top)
ups_read xs (leaf s) top p h = (tt, h.0)
ups_read xs (node o l r) top p h =
    let m = p + (size l + size r) in
    let ls = ups_of m p l in
    let rs = ups_of m (p + size l) r in
    let a = ups_read xs l m p (reads_left xs ls (rs ++ (top ∷ [])) p h) in
    let h₁ : Reads xs (p + size l) (rs ++ (top ∷ [])) = rw (length-ups_of l m p) at (reads_right xs ls (rs ++ (top ∷ [])) p h) in
    let b = ups_read xs r m (p + size l) (reads_left xs rs (top ∷ []) (p + size l) h₁) in
    let e : p + size l + length rs ≡ m = omega (arith, length-ups_of r m (p + size l)) in
    let c : Reads xs m (top ∷ []) = rw e at (reads_right xs rs (top ∷ []) (p + size l) h₁) in
    ((a.1, b.1, a.0, b.0), c.0)

leaves-read : (xs : List ℕ) (f : Formula) (p n : ℕ) → Reads xs n (leaf_spots p f) → LeafSpots xs p n f
leaves-read xs (leaf s) p n h = h.0
leaves-read xs (node o l r) p n h = (
  leaves-read xs l p n (reads_left xs (leaf_spots p l) (leaf_spots (p + size l) r) n h),
  leaves-read xs r (p + size l) (n + leaves l) (rw (length-leaf_spots l p) at (reads_right xs (leaf_spots p l) (leaf_spots (p + size l) r) n h)),
)

-- what holds of each record of a dwarf tree holds of those that the rounds make
each_right : (P : ℕ → Rec → Type 0) (rs qs : List Rec) (n : ℕ) → Each P n (rs ++ qs) → Each P (n + length rs) qs
each_right P [] qs n h = rw add-zero h
each_right P (r ∷ rs) qs n h = rw (add-suc, ← suc-add) (each_right P rs qs (suc n) h.1)

made_each : (P : ℕ → Rec → Type 0) → Kinds P → (f : Formula) → Each P (leaves f) (all_made (enough f) (planted f 0) (leaves f))
made_each P ok f =
    rw (← (length-leaf_recs f), zero-add) at
    (each_right P (leaf_recs f) (all_made (enough f) (planted f 0) (leaves f)) 0 (rw (dwarf-all f) at (dwarf_each P ok f)))

-- where a node stands hangs on its first alone, if it is no leaf
abbrev Hangs : List ℕ → ℕ → Rec → Type 0
Hangs ups n r = NoLeaf n r → Steady (spot ups) n r

module _ (ups : List ℕ) where
  hangs : Kinds (Hangs ups)
  hangs =
      record {
        at_leaf = λ s n e xs ys h. cc;
        at_E = λ o a b n ha hb e xs ys h. ap (λ k. get_or ups k 0) (h a ha);
        at_R = λ side o a n ha e xs ys h. ap (λ k. get_or ups k 0) (h a ha);
        at_S = λ a b n ha hb e xs ys h. h a ha;
        at_C = λ a b n ha hb e xs ys h. h a ha;
      }

  both : (rs : List Rec) (n : ℕ) → Each (Hangs ups) n rs → Each NoLeaf n rs → Each (Steady (spot ups)) n rs
  both [] n p q = tt
  both (r ∷ rs) n p q = (p.0 q.0, both rs (suc n) p.1 q.1)

  made_steady : (f : Formula) → Each (Steady (spot ups)) (leaves f) (all_made (enough f) (planted f 0) (leaves f))
  made_steady f =
      both (all_made (enough f) (planted f 0) (leaves f)) (leaves f)
      (made_each (Hangs ups) hangs f) (made_none (enough f) (planted f 0) (leaves f) _)

-- lists that begin as they should, and are worked out from there
placed : (ups xs : List ℕ) (f : Formula) → Reads ups 0 (ups_of 0 0 f) → xs ≡ leaf_spots 0 f
    → Placed ups (worked (spot ups) xs (all_made (enough f) (planted f 0) (leaves f))) f
placed ups xs f u e =
    let rs = all_made (enough f) (planted f 0) (leaves f) in
    let n : length xs ≡ leaves f = ap length e ∙ length-leaf_spots f 0 in
    let es = worked (spot ups) xs rs in
    record {
      over = (ups_read ups f 0 0 u).0;
      at_leaves = leaves-read es f 0 0 (reads_same es (leaf_spots 0 f) 0 (λ i l. ap (λ k. get_or es k 0) (zero-add i) ∙ keeps (spot ups) rs xs i (omega (arith, ap length e)) ∙ ap (λ z. get_or z i 0) e));
      at_made = worked_good (spot ups) rs xs (leaves f) n (made_steady ups f);
    }

pub spots-placed : (f : Formula) → Placed (ups_of 0 0 f) (spots f) f
spots-placed f =
    rw (made_all (enough f) (planted f 0) (leaves f))
    (placed (ups_of 0 0 f) (leaf_spots 0 f) f (reads_same (ups_of 0 0 f) (ups_of 0 0 f) 0 (λ i l. ap (λ k. get_or (ups_of 0 0 f) k 0) (zero-add i))) refl)
