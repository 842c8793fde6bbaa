-- What is looked up: the node above a node, and the next leaf of a shape.
use Prim.Native.Nat.{ℕ, zero, suc, ◌+◌, ◌-◌, ◌<◌, ◌≤◌}
use native.Mathlib.Omega.{arith}
use mathlib.Core.Path.{◌≡◌, refl, sym, ap, ◌∙◌}
use mathlib.Core.Bool.{Bool, true, false}
use mathlib.Core.List.{List, [], ◌∷◌}
use mathlib.Core.Logic.{◌⊎◌, inl, inr, ⊎_elim}
use lib.Dec.{eqb}
use borrow.Author.Tests.{eqb-true, eqb-false, eq-eqb, ne_eqb}
use lib.ListN.{get_or}
use Rattle.contraction.specs.Records.{Rec, over}
use Rattle.contraction.specs.Entries.{entries, rec_at, recs}
use Rattle.contraction.proofs.EntryLaws.{recs_more}
use Rattle.labels.specs.Labels.{is_of}
use Rattle.labels.specs.Linked.{seek, Linked, Ready}
use Rattle.labels.proofs.Fills.{seek-here, seek-past, seek-none}

-- by a test's two answers
pub cases : {A : Type 0} (b : Bool) → (b ≡ true → A) → (b ≡ false → A) → A
cases true f g = f refl
cases false f g = g refl

module _ (ks fs ss : List ℕ) (p : Rec → Bool) where
  -- `seek` finds a record that passes, or none
  pub found : (d j : ℕ) → (seek p j (recs ks fs ss j d) ≡ 65535)
      ⊎ ((p (rec_at ks fs ss (seek p j (recs ks fs ss j d))) ≡ true) × (j ≤ seek p j (recs ks fs ss j d)) × (seek p j (recs ks fs ss j d) < j + d))
  found zero j = inl (seek-none ks fs ss p j j 0 refl)
  found (suc d) j =
      cases (p (rec_at ks fs ss j))
      (λ q. rw (recs_more ks fs ss j d, seek-here p j (rec_at ks fs ss j) (recs ks fs ss (suc j) d) q) (inr (q, omega arith, omega arith)))
      (λ q. rw (recs_more ks fs ss j d, seek-past p j (rec_at ks fs ss j) (recs ks fs ss (suc j) d) q)
      (⊎_elim (λ e. inl e) (λ w. inr (w.0, omega (arith, w.1), omega (arith, w.2))) (found d (suc j))))

  -- and the first that passes
  seek-first : (d j k : ℕ) → j ≤ k → k < j + d → p (rec_at ks fs ss k) ≡ true → seek p j (recs ks fs ss j d) ≤ k
  seek-first zero j k a b e = absurd (omega arith)
  seek-first (suc d) j k a b e =
      cases (p (rec_at ks fs ss j))
      (λ q. rw (recs_more ks fs ss j d, seek-here p j (rec_at ks fs ss j) (recs ks fs ss (suc j) d) q) a)
      (λ q. rw (recs_more ks fs ss j d, seek-past p j (rec_at ks fs ss j) (recs ks fs ss (suc j) d) q)
      (seek-first d (suc j) k (past q) (omega arith) e))
    where
      past : p (rec_at ks fs ss j) ≡ false → suc j ≤ k
      past q = cases (eqb j k) (λ z. absurd (omega (arith, clash q (eqb-true j k z)))) (λ z. strict (eqb-false j k z))
        where
          clash : p (rec_at ks fs ss j) ≡ false → j ≡ k → ◌≡◌ {A = ℕ} 0 1
          clash q z = let s : p (rec_at ks fs ss j) ≡ true = ap (λ (n : ℕ). p (rec_at ks fs ss n)) z ∙ e in cc

          strict : (j ≡ k → ⊥) → suc j ≤ k
          strict z = omega arith

-- what passes over records that do not pass goes on at the first that does, and is done where there is none
module _ {A : Type 0} (p : Rec → Bool) (go : List Rec → ℕ → A) (end : A) (at-end : (j : ℕ) → go [] j ≡ end)
    (past : (r : Rec) (rs : List Rec) (j : ℕ) → p r ≡ false → go (r ∷ rs) j ≡ go rs (suc j)) (ks fs ss : List ℕ) where
  pub jump : (d j : ℕ) → j + d < 65535 → seek p j (recs ks fs ss j d) < j + d → go (recs ks fs ss j d) j
      ≡ go (rec_at ks fs ss (seek p j (recs ks fs ss j d)) ∷ recs ks fs ss (suc (seek p j (recs ks fs ss j d))) (j + d - suc (seek p j (recs ks fs ss j d)))) (seek p j (recs ks fs ss j d))
  jump zero j few h = absurd (omega (arith, seek-none ks fs ss p j j 0 refl))
  jump (suc d) j few h =
      let r = rec_at ks fs ss j in
      let rs = recs ks fs ss (suc j) d in
      cases (p r)
      (λ q. let e : j + suc d - suc j ≡ d = omega arith in rw (recs_more ks fs ss j d, seek-here p j r rs q, e))
      (λ q.
      let e : suc j + d ≡ j + suc d = omega arith in
      let k = ap (seek p j) (recs_more ks fs ss j d) ∙ seek-past p j r rs q in
      rw (recs_more ks fs ss j d, seek-past p j r rs q, past r rs j q, ← e) (jump d (suc j) (omega arith) (omega (arith, k))))

  pub done : (d j : ℕ) → j + d ≤ seek p j (recs ks fs ss j d) → go (recs ks fs ss j d) j ≡ end
  unfolding entries
  done zero j h = at-end j
  done (suc d) j h =
      let r = rec_at ks fs ss j in
      let rs = recs ks fs ss (suc j) d in
      cases (p r)
      (λ q. absurd (omega (arith, seek-here p j r rs q)))
      (λ q. past r rs j q ∙ done d (suc j) (omega (arith, seek-past p j r rs q)))

module _ {ks fs ss : List ℕ} {leaves nodes : ℕ} {ps : List ℕ} (lk : Linked ks fs ss leaves nodes ps) where
  -- the node above c stands over it
  pub parent_over : (c : ℕ) → c < nodes → get_or ps c 0 < nodes → over c (rec_at ks fs ss (get_or ps c 0)) ≡ true
  parent_over c h l =
      ⊎_elim (λ e. absurd (omega (arith, lk.ups.up c h, e, lk.shaped.room))) (λ w. rw (lk.ups.up c h) w.0) (found ks fs ss (over c) nodes 0)

  -- and no other node does
  pub parent_is : (c k : ℕ) → c < nodes → k < nodes → over c (rec_at ks fs ss k) ≡ eqb k (get_or ps c 0)
  parent_is c k h l =
      cases (over c (rec_at ks fs ss k))
      (λ o.
      let first : get_or ps c 0 ≤ k = rw (lk.ups.up c h) (seek-first ks fs ss (over c) nodes 0 k (omega arith) (omega arith) o) in
      o ∙ sym (eq-eqb k (get_or ps c 0) (lk.shaped.once c k (get_or ps c 0) l (omega arith) o (parent_over c h (omega arith)))))
      (λ o. o ∙ sym (ne_eqb k (get_or ps c 0) (λ e. clash o e)))
    where
      clash : over c (rec_at ks fs ss k) ≡ false → k ≡ get_or ps c 0 → ⊥
      clash o e =
          let s : over c (rec_at ks fs ss k) ≡ true = ap (λ (n : ℕ). over c (rec_at ks fs ss n)) e ∙ parent_over c h (omega arith) in
          let z : ◌≡◌ {A = ℕ} 0 1 = cc in
          omega arith

  -- it has a larger number, and 65535, where there is none, is larger too
  pub parent_after : {c b : ℕ} → c < nodes → b ≡ get_or ps c 0 → c < b
  parent_after {c} {b} h e =
      ⊎_elim (λ z. omega (arith, e, lk.ups.up c h, z, lk.shaped.room))
      (λ w. omega (arith, e, lk.ups.up c h, lk.shaped.below _ c (omega (arith, w.2)) w.0))
      (found ks fs ss (over c) nodes 0)

-- so has the next leaf of a leaf's shape
pub next-after : {ks fs ss : List ℕ} {leaves nodes : ℕ} {links : List ℕ} → Ready ks fs ss leaves nodes links → {c b : ℕ} → c < leaves → b ≡ get_or links (3328 + c) 0 → c < b
next-after {ks} {fs} {ss} {leaves} {nodes} rd {c} h e =
    ⊎_elim (λ z. omega (arith, e ∙ rd.chains.next c h, z, rd.linked.shaped.few)) (λ w. omega (arith, e ∙ rd.chains.next c h, w.1))
    (found ks fs ss (is_of (get_or fs c 0)) (nodes - suc c) (suc c))
