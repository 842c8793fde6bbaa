-- The passes over the arrays: what each has filled so far.
use Prim.Native.Nat.{ℕ, zero, suc, ◌+◌, ◌-◌, ◌*◌, ◌<◌, ◌≤◌}
use native.Mathlib.Numerals.{add-one}
use native.Mathlib.Omega.{arith}
use mathlib.Core.Path.{◌≡◌, refl, sym, ap, ◌∙◌}
use mathlib.Core.Bool.{Bool, true, false, cond, ◌&&◌}
use mathlib.Core.List.{List, [], ◌∷◌, ◌++◌}
use lib.Dec.{eqb}
use mir.Syntax.{w64}
use mir.Val.{Fits}
use lib.ListN.{length, get_or, set, take, replicate, length-set, length-replicate, get_or-replicate}
use lib.Seq.{get_or-set_same, get_or-set_other, get_or-take, take-suc-set}
use borrow.Author.Tests.{eqb-true, eqb-false, eq-eqb, ne_eqb}
use Rattle.formula.specs.States.{outside}
use Rattle.contraction.specs.Records.{Rec, absent, children, listed, over}
use Rattle.contraction.specs.Entries.{entries, rec_at, recs}
use Rattle.contraction.proofs.Worked.{worked_snoc}
use Rattle.contraction.proofs.EntryLaws.{recs_more, recs-next}
use Rattle.labels.specs.Labels.{label, labels, is_of}
use Rattle.labels.specs.Linked.{seek, Shaped, adopted, Parents, Chains, Bare, Above}
use Rattle.labels.proofs.Rules.{label_local}

-- `seek` at one record more
module _ (p : Rec → Bool) (j : ℕ) (r : Rec) (rs : List Rec) where
  pub seek-here : p r ≡ true → seek p j (r ∷ rs) ≡ j
  unfolding seek
  seek-here e = rw (e, seek)

  pub seek-past : p r ≡ false → seek p j (r ∷ rs) ≡ seek p (suc j) rs
  unfolding seek
  seek-past e = rw (e, seek)

module _ (ks fs ss : List ℕ) where
  pub seek-none : (p : Rec → Bool) (j k d : ℕ) → d ≡ 0 → seek p j (recs ks fs ss k d) ≡ absent
  unfolding entries seek
  seek-none p j k d e = rw e

  -- where no record passes
  seek-all : (p : Rec → Bool) (d j : ℕ) → ((i : ℕ) → j ≤ i → i < j + d → p (rec_at ks fs ss i) ≡ false) → seek p j (recs ks fs ss j d) ≡ absent
  seek-all p zero j out = seek-none p j j 0 refl
  seek-all p (suc d) j out =
      rw (recs_more ks fs ss j d)
      (seek-past p j (rec_at ks fs ss j) (recs ks fs ss (suc j) d) (out j (omega arith) (omega arith)) ∙ seek-all p d (suc j) (λ i l h. out i (omega arith) (omega arith)))

module _ (ks fs ss : List ℕ) where
  -- the labels of the first j nodes
  pub record LabelsTo (nodes j : ℕ) (ls : List ℕ) : Type 0 where
    pub within : j ≤ nodes
    pub long : length ls ≡ 3072
    pub so : take j ls ≡ labels outside (recs ks fs ss 0 j)

  -- the parents among the nodes from j on
  pub record ParentsFrom (nodes j : ℕ) (old links : List ℕ) : Type 0 where
    pub within : j ≤ nodes
    pub long : length links ≡ 4352
    pub so : (c : ℕ) → c < 3072 → get_or links c 0 ≡ seek (over c) j (recs ks fs ss j (nodes - j))
    pub above : (c : ℕ) → 3072 ≤ c → c < 4352 → get_or links c 0 ≡ get_or old c 0

  -- the chains of the leaves from j on
  pub record ChainsFrom (leaves nodes j : ℕ) (links : List ℕ) : Type 0 where
    pub within : j ≤ leaves
    pub long : length links ≡ 4352
    pub heads : (s : ℕ) → s < 256 → get_or links (3072 + s) 0 ≡ seek (is_of s) j (recs ks fs ss j (nodes - j))
    pub nexts : (i : ℕ) → j ≤ i → i < leaves → get_or links (3328 + i) 0 ≡ seek (is_of (get_or fs i 0)) (suc i) (recs ks fs ss (suc i) (nodes - suc i))
    pub low : (c : ℕ) → c < 3072 → get_or links c 0 ≡ absent

module _ {ks fs ss : List ℕ} where
  pub labels_start : (nodes : ℕ) {ls : List ℕ} → length ls ≡ 3072 → LabelsTo ks fs ss nodes 0 ls
  unfolding entries
  labels_start nodes long = record { within = omega arith; long = long; so = refl }

  pub labels_more : {leaves nodes j v : ℕ} {ls : List ℕ} → Shaped ks fs ss leaves nodes → LabelsTo ks fs ss nodes j ls → j < nodes
      → v ≡ label outside ls (rec_at ks fs ss j) → LabelsTo ks fs ss nodes (j + 1) (set ls j v)
  labels_more {leaves} {nodes} {j} {v} {ls} sh u h e =
      let r = rec_at ks fs ss j in
      let below : label outside ls r ≡ label outside (take j ls) r =
      label_local outside r ls (take j ls) (λ c o. sym (get_or-take j ls c 0 (sh.below j c h o))) in
      record {
        within = omega arith;
        long = length-set ls j v ∙ u.long;
        so =
            rw (recs-next ks fs ss j)
            (rw (add-one j) (take-suc-set ls j v (omega (arith, u.long, sh.room))) ∙ ap (λ x. take j ls ++ (x ∷ [])) (e ∙ below)
            ∙ rw u.so (sym (worked_snoc (label outside) (recs ks fs ss 0 j) r [])));
      }

  pub labels_end : {nodes j : ℕ} {ls : List ℕ} → LabelsTo ks fs ss nodes j ls → nodes ≤ j → take nodes ls ≡ labels outside (recs ks fs ss 0 nodes)
  labels_end {nodes} {j} u h = let e : nodes ≡ j = omega (arith, u.within) in rw e u.so

  pub parents_start : {nodes : ℕ} {links : List ℕ} → Bare links → ParentsFrom ks fs ss nodes nodes links links
  parents_start {nodes} bare =
      record {
        within = omega arith;
        long = bare.long;
        so = λ c l. bare.none c l ∙ sym (seek-none ks fs ss (over c) nodes nodes (nodes - nodes) (omega arith));
        above = λ c b l. refl;
      }

length-adopted : (j : ℕ) (cs ps : List ℕ) → length (adopted j cs ps) ≡ length ps
length-adopted j [] ps = refl
length-adopted j (c ∷ cs) ps = length-adopted j cs (set ps c j) ∙ length-set ps c j

adopted-at : (j : ℕ) (cs ps : List ℕ) (c : ℕ) → c < length ps → get_or (adopted j cs ps) c 0 ≡ cond (listed c cs) j (get_or ps c 0)
adopted-at j [] ps c h = refl
adopted-at j (d ∷ ds) ps c h = adopted-at j ds (set ps d j) c (omega (arith, length-set ps d j)) ∙ go (eqb c d) refl
  where
    same : (b : Bool) → cond b j j ≡ j
    same true = refl
    same false = refl

    go : (b : Bool) → eqb c d ≡ b → cond (listed c ds) j (get_or (set ps d j) c 0) ≡ cond (listed c (d ∷ ds)) j (get_or ps c 0)
    go true q = rw (q, ← (eqb-true c d q), get_or-set_same ps c j 0 h) (same (listed c ds))
    go false q = rw (q, get_or-set_other ps d c j 0 (eqb-false c d q))

module _ {ks fs ss : List ℕ} where
  -- the node before j, whose index i in the arrays is known
  pub parents_more : {leaves nodes j i : ℕ} {old ps qs : List ℕ} → Shaped ks fs ss leaves nodes → ParentsFrom ks fs ss nodes j old ps → 0 < j → i ≡ j - 1
      → qs ≡ adopted (j - 1) (children (rec_at ks fs ss i)) ps → ParentsFrom ks fs ss nodes (j - 1) old qs
  parents_more {leaves} {nodes} {j} {i} {old} {ps} sh u h e done =
      let k = j - 1 in
      let r = rec_at ks fs ss k in
      let d : nodes - k ≡ suc (nodes - suc k) = omega (arith, u.within) in
      rw (done, e)
      record {
        within = omega (arith, u.within);
        long = length-adopted k (children r) ps ∙ u.long;
        so = λ c l. adopted-at k (children r) ps c (omega (arith, u.long)) ∙ rw (d, recs_more ks fs ss k (nodes - suc k)) (go c (u.so c l) (over c r) refl);
        above = λ c b l. adopted-at k (children r) ps c (omega (arith, u.long)) ∙ past c b (over c r) refl ∙ u.above c b l;
      }
    where
      -- a child has a smaller number
      past : (c : ℕ) → 3072 ≤ c → (b : Bool) → over c (rec_at ks fs ss (j - 1)) ≡ b → cond (over c (rec_at ks fs ss (j - 1))) (j - 1) (get_or ps c 0) ≡ get_or ps c 0
      past c b true q = absurd (omega (arith, u.within, sh.room, sh.below (j - 1) c (omega (arith, u.within)) q))
      past c b false q = rw q

      go : (c : ℕ) → get_or ps c 0 ≡ seek (over c) j (recs ks fs ss j (nodes - j)) → (b : Bool) → over c (rec_at ks fs ss (j - 1)) ≡ b
          → cond (over c (rec_at ks fs ss (j - 1))) (j - 1) (get_or ps c 0)
          ≡ seek (over c) (j - 1) (rec_at ks fs ss (j - 1) ∷ recs ks fs ss (suc (j - 1)) (nodes - suc (j - 1)))
      go c old true q = rw (q, seek-here (over c) (j - 1) (rec_at ks fs ss (j - 1)) (recs ks fs ss (suc (j - 1)) (nodes - suc (j - 1))) q)
      go c old false q =
          let j' : suc (j - 1) ≡ j = omega arith in
          rw (q, seek-past (over c) (j - 1) (rec_at ks fs ss (j - 1)) (recs ks fs ss (suc (j - 1)) (nodes - suc (j - 1))) q, j') old

  pub parents_end : {leaves nodes j : ℕ} {old ps : List ℕ} → Shaped ks fs ss leaves nodes → ParentsFrom ks fs ss nodes j old ps → j ≤ 0 → Parents ks fs ss nodes ps
  parents_end {leaves} {nodes} {j} sh u h =
      let e : j ≡ 0 = omega arith in
      let d : nodes - 0 ≡ nodes = omega arith in
      record { up = λ c l. u.so c (omega (arith, sh.room)) ∙ rw (e, d) }

  pub parents_kept : {nodes j : ℕ} {old ps : List ℕ} → ParentsFrom ks fs ss nodes j old ps → Above old ps
  parents_kept u = record { kept = u.above }

  pub chains_start : {leaves nodes : ℕ} → Shaped ks fs ss leaves nodes → ChainsFrom ks fs ss leaves nodes leaves (replicate 4352 65535)
  chains_start {leaves} {nodes} sh =
      record {
        within = omega arith;
        long = length-replicate {A = ℕ} 4352 65535;
        heads = λ s l.
            get_or-replicate 4352 (3072 + s) 65535 0 (omega arith)
            ∙ sym (seek-all ks fs ss (is_of s) (nodes - leaves) leaves (λ i b t. ap (λ z. z && eqb (get_or fs i 0) s) (sh.inner i b (omega (arith, sh.within)))));
        nexts = λ i b l. absurd (omega arith);
        low = λ c l. get_or-replicate 4352 c 65535 0 (omega arith);
      }

  -- the leaf before j, whose index i in the arrays is known, and whose shape is t
  module _ {leaves nodes j i t : ℕ} {ls : List ℕ} (sh : Shaped ks fs ss leaves nodes) (u : ChainsFrom ks fs ss leaves nodes j ls) where
    shape-named : 0 < j → i ≡ j - 1 → t ≡ get_or fs i 0 → t < 256
    shape-named h e q = omega (arith, q, sh.named i (omega (arith, u.within)))

    pub chains_more : 0 < j → i ≡ j - 1 → t ≡ get_or fs i 0 → ChainsFrom ks fs ss leaves nodes (j - 1) (set (set ls (3328 + i) (get_or ls (3072 + t) 0)) (3072 + t) (j - 1))
    chains_more h e q =
        let d : nodes - k ≡ suc (nodes - suc k) = omega (arith, u.within, sh.within) in
        rw e
        record {
          within = omega (arith, u.within);
          long = length-set mid (3072 + t) k ∙ length-set ls (3328 + k) x ∙ u.long;
          heads = λ s l. rw (d, recs_more ks fs ss k (nodes - suc k)) (head s l (eqb s t) refl);
          nexts = λ a b l. next a b l (eqb a k) refl;
          low = λ c l. get_or-set_other mid (3072 + t) c k 0 (λ z. omega arith) ∙ get_or-set_other ls (3328 + k) c x 0 (λ z. omega arith) ∙ u.low c l;
        }
      where
        k : ℕ
        k = j - 1

        x : ℕ
        x = get_or ls (3072 + t) 0

        mid : List ℕ
        mid = set ls (3328 + k) x

        q' : t ≡ get_or fs k 0
        q' = q ∙ ap (λ (n : ℕ). get_or fs n 0) e

        r : Rec
        r = rec_at ks fs ss k

        j' : j ≡ suc k
        j' = omega arith

        is : (s : ℕ) → is_of s r ≡ eqb (get_or fs k 0) s
        is s = ap (λ z. z && eqb (get_or fs k 0) s) (sh.leaf k (omega (arith, u.within)))

        mid_long : length mid ≡ 4352
        mid_long = length-set ls (3328 + k) x ∙ u.long

        head : (s : ℕ) → s < 256 → (b : Bool) → eqb s t ≡ b → get_or (set mid (3072 + t) k) (3072 + s) 0 ≡ seek (is_of s) k (r ∷ recs ks fs ss (suc k) (nodes - suc k))
        head s l true z =
            let same : s ≡ t = eqb-true s t z in
            ap (λ n. get_or (set mid (3072 + t) k) (3072 + n) 0) same ∙ get_or-set_same mid (3072 + t) k 0 (omega (arith, mid_long, shape-named h e q))
            ∙ sym (seek-here (is_of s) k r (recs ks fs ss (suc k) (nodes - suc k)) (is s ∙ eq-eqb (get_or fs k 0) s (sym q' ∙ sym same)))
        head s l false z =
            let other : s ≡ t → ⊥ = eqb-false s t z in
            get_or-set_other mid (3072 + t) (3072 + s) k 0 (λ y. other (omega arith)) ∙ get_or-set_other ls (3328 + k) (3072 + s) x 0 (λ y. omega arith) ∙ (rw j' at (u.heads s l))
            ∙ sym (seek-past (is_of s) k r (recs ks fs ss (suc k) (nodes - suc k)) (is s ∙ ne_eqb (get_or fs k 0) s (λ y. other (sym y ∙ sym q'))))

        next : (a : ℕ) → k ≤ a → a < leaves → (b : Bool) → eqb a k ≡ b
            → get_or (set mid (3072 + t) k) (3328 + a) 0 ≡ seek (is_of (get_or fs a 0)) (suc a) (recs ks fs ss (suc a) (nodes - suc a))
        next a b l true z =
            rw (eqb-true a k z, ← q')
            (get_or-set_other mid (3072 + t) (3328 + k) k 0 (λ y. omega (arith, shape-named h e q))
            ∙ get_or-set_same ls (3328 + k) x 0 (omega (arith, u.long, u.within, sh.few)) ∙ (rw j' at (u.heads t (shape-named h e q))))
        next a b l false z =
            let other : a ≡ k → ⊥ = eqb-false a k z in
            get_or-set_other mid (3072 + t) (3328 + a) k 0 (λ y. omega (arith, shape-named h e q)) ∙ get_or-set_other ls (3328 + k) (3328 + a) x 0 (λ y. other (omega arith))
            ∙ u.nexts a (omega (arith, past other)) l
          where
            past : (a ≡ k → ⊥) → k < a
            past y = omega arith

  pub chains_end : {leaves nodes j : ℕ} {links : List ℕ} → ChainsFrom ks fs ss leaves nodes j links → j ≤ 0 → Chains ks fs ss leaves nodes links
  chains_end {leaves} {nodes} {j} u h =
      let e : j ≡ 0 = omega arith in
      let d : nodes - 0 ≡ nodes = omega arith in
      record {
        first = λ s l. u.heads s l ∙ rw (e, d);
        next = λ i l. u.nexts i (omega arith) l;
      }

  pub chains_bare : {leaves nodes j : ℕ} {links : List ℕ} → ChainsFrom ks fs ss leaves nodes j links → Bare links
  chains_bare u = record { long = u.long; none = u.low }

  -- the chains stay where only entries before them change
  pub chains_stay : {leaves nodes : ℕ} {links links' : List ℕ} → Shaped ks fs ss leaves nodes → Chains ks fs ss leaves nodes links → Above links links' → Chains ks fs ss leaves nodes links'
  chains_stay sh u a =
      record {
        first = λ s l. a.kept (3072 + s) (omega arith) (omega arith) ∙ u.first s l;
        next = λ i l. a.kept (3328 + i) (omega arith) (omega (arith, sh.few)) ∙ u.next i l;
      }
