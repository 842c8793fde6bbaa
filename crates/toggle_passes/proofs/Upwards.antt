-- A pass upwards from due node to due node is the pass over all nodes: the nodes between are not reworked.
use Prim.Native.Nat.{ℕ, zero, suc, ◌+◌, ◌-◌, ◌<◌, ◌≤◌}
use native.Mathlib.Nat.{add-zero, zero-add, add-suc, suc-add}
use native.Mathlib.Omega.{arith}
use mathlib.Core.Path.{◌≡◌, refl, sym, ap, ◌∙◌}
use mathlib.Core.Bool.{Bool, true, false, not, ◌&&◌, ◌||◌}
use mathlib.Core.List.{List, [], ◌∷◌}
use lib.Dec.{eqb}
use borrow.Author.Tests.{eqb-true, eqb-false, eq-eqb, ne_eqb}
use lib.ListN.{length, get_or, set, take, length-set}
use lib.Seq.{get_or-set_same, get_or-set_other, get_or-take, take-set-lt, set-get_or}
use Rattle.formula.specs.States.{outside}
use Rattle.contraction.specs.Records.{children, listed, over}
use Rattle.contraction.specs.Entries.{entries, rec_at, recs}
use Rattle.contraction.proofs.EntryLaws.{recs_more}
use Rattle.labels.specs.Labels.{label}
use Rattle.labels.specs.Linked.{Shaped, Linked}
use Rattle.labels.proofs.Rules.{label_local}
use Rattle.labels.proofs.Links.{parent_is, parent_after}
use Rattle.toggle_passes.specs.Reworking.{Steps, steps, changed, reworked, rework}
use Rattle.toggle_passes.specs.Upwards.{Alone}
use Rattle.toggle_passes.proofs.Reworking.{rework_skip, rework-here}

recs-none : (ks fs ss : List ℕ) (i : ℕ) → recs ks fs ss i 0 ≡ []
unfolding entries
recs-none ks fs ss i = refl

-- a number that rises towards a bound
pub nearer : (m c b : ℕ) → c < m → c < b → m - b < m - c
nearer m c b h l = omega arith

-- n nodes more than those that were reworked
abbrev pub plus : ℕ → Steps → Steps
plus n st = steps st.labels (n + st.count)

later : (a b : Bool) → b ≡ true → a || b ≡ true
later true b e = refl
later false b e = e

-- what has changed hangs on the children's labels alone
changed_local : (old xs ys cs : List ℕ) → ((c : ℕ) → listed c cs ≡ true → get_or xs c 0 ≡ get_or ys c 0) → changed old xs cs ≡ changed old ys cs
changed_local old xs ys [] h = refl
changed_local old xs ys (c ∷ cs) h =
    let here : get_or xs c 0 ≡ get_or ys c 0 = h c (rw (eq-eqb c c refl)) in
    rw (here, changed_local old xs ys cs (λ d l. h d (later (eqb d c) (listed d cs) l)))

-- where one label alone has changed, it is that of a child
changed-alone : (nodes : ℕ) (old ls : List ℕ) (c : ℕ) → Alone nodes old ls c → (cs : List ℕ) → ((d : ℕ) → listed d cs ≡ true → d < nodes) → changed old ls cs ≡ listed c cs
changed-alone nodes old ls c a [] h = refl
changed-alone nodes old ls c a (d ∷ ds) h = rw (changed-alone nodes old ls c a ds (λ e l. h e (later (eqb e d) (listed e ds) l))) (go (eqb c d) refl)
  where
    go : (b : Bool) → eqb c d ≡ b → (not (eqb (get_or ls d 0) (get_or old d 0)) || listed c ds) ≡ (eqb c d || listed c ds)
    go true q = rw (q, ← (eqb-true c d q), ne_eqb (get_or ls c 0) (get_or old c 0) a.differs)
    go false q = rw (q, eq-eqb (get_or ls d 0) (get_or old d 0) (a.elsewhere d (h d (rw (eq-eqb d d refl))) (λ z. eqb-false c d q (sym z))))

-- one label more, at p, which was as before
pub changed-set : (old ls : List ℕ) (p v : ℕ) → p < length ls → get_or ls p 0 ≡ get_or old p 0 → (cs : List ℕ)
    → changed old (set ls p v) cs ≡ (changed old ls cs || (listed p cs && not (eqb v (get_or ls p 0))))
changed-set old ls p v h same [] = refl
changed-set old ls p v h same (d ∷ ds) = rw (changed-set old ls p v h same ds) (go (eqb p d) refl)
  where
    mix : (a b c d : Bool) → (c ≡ false) → (a || (b || (d && a))) ≡ ((c || b) || (true && a))
    mix true true c d e = rw e
    mix true false c d e = rw e
    mix false true c true e = rw e
    mix false true c false e = rw e
    mix false false c true e = rw e
    mix false false c false e = rw e

    apart : (a b c : Bool) → (a || (b || c)) ≡ ((a || b) || c)
    apart true b c = refl
    apart false b c = refl

    go : (b : Bool) → eqb p d ≡ b
        → (not (eqb (get_or (set ls p v) d 0) (get_or old d 0)) || (changed old ls ds || (listed p ds && not (eqb v (get_or ls p 0)))))
        ≡ ((not (eqb (get_or ls d 0) (get_or old d 0)) || changed old ls ds) || ((eqb p d || listed p ds) && not (eqb v (get_or ls p 0))))
    go true q =
        rw (q, ← (eqb-true p d q), get_or-set_same ls p v 0 h, ← same)
        (mix (not (eqb v (get_or ls p 0))) (changed old ls ds) (not (eqb (get_or ls p 0) (get_or ls p 0))) (listed p ds) (ap not (eq-eqb (get_or ls p 0) (get_or ls p 0) refl)))
    go false q =
        rw (q, get_or-set_other ls p d v 0 (λ z. eqb-false p d q (sym z)))
        (apart (not (eqb (get_or ls d 0) (get_or old d 0))) (changed old ls ds) (listed p ds && not (eqb v (get_or ls p 0))))

module _ (ks fs ss : List ℕ) (nodes : ℕ) where
  -- the pass has come to node j: from there on the labels are those before, and `due` says which nodes have a changed child
  pub record Pass (old : List ℕ) (from : ℕ) (l₀ : List ℕ) (due : ℕ → Bool) (j : ℕ) (ls : List ℕ) (n : ℕ) : Type 0 where
    pub inside : j ≤ nodes
    pub long : length ls ≡ 3072
    pub kept : (i : ℕ) → j ≤ i → i < nodes → get_or ls i 0 ≡ get_or old i 0
    pub dues : (k : ℕ) → j ≤ k → k < nodes → changed old ls (children (rec_at ks fs ss k)) ≡ due k
    pub same : rework old (recs ks fs ss from (nodes - from)) from (take nodes l₀) ≡ plus n (rework old (recs ks fs ss j (nodes - j)) j (take nodes ls))

-- a child's label on the whole array and on its first entries
on-nodes : {ks fs ss : List ℕ} {leaves nodes : ℕ} → Shaped ks fs ss leaves nodes → (ls : List ℕ) (k c : ℕ) → k < nodes → over c (rec_at ks fs ss k) ≡ true
    → get_or (take nodes ls) c 0 ≡ get_or ls c 0
on-nodes {nodes = nodes} sh ls k c h o = get_or-take nodes ls c 0 (omega (arith, sh.below k c h o))

module _ {ks fs ss : List ℕ} {leaves nodes : ℕ} (sh : Shaped ks fs ss leaves nodes) {old : List ℕ} {from : ℕ} {l₀ : List ℕ} where
  module _ {due : ℕ → Bool} {j : ℕ} {ls : List ℕ} {n : ℕ} (g : Pass ks fs ss nodes old from l₀ due j ls n) where
    due-take : (k : ℕ) → j ≤ k → k < nodes → changed old (take nodes ls) (children (rec_at ks fs ss k)) ≡ due k
    due-take k a h = changed_local old (take nodes ls) ls (children (rec_at ks fs ss k)) (λ c o. on-nodes sh ls k c h o) ∙ g.dues k a h

    next-node : j < nodes → nodes - j ≡ suc (nodes - suc j)
    next-node h = omega arith

    -- a node that is not due
    pass_by : j < nodes → due j ≡ false → Pass ks fs ss nodes old from l₀ due (suc j) ls n
    pass_by h e =
        record {
          inside = omega arith;
          long = g.long;
          kept = λ i a. g.kept i (omega arith);
          dues = λ k a. g.dues k (omega arith);
          same =
              g.same
              ∙ ap (plus n) (rw (next-node h, recs_more ks fs ss j (nodes - suc j))
              (rework_skip old (rec_at ks fs ss j) (recs ks fs ss (suc j) (nodes - suc j)) j (take nodes ls) (due-take j (omega arith) h ∙ e)));
        }

    -- a node that is
    pub pass_work : {v : ℕ} {due' : ℕ → Bool} → j < nodes → due j ≡ true → v ≡ label outside ls (rec_at ks fs ss j)
        → ((k : ℕ) → j < k → k < nodes → (due k || (over j (rec_at ks fs ss k) && not (eqb v (get_or ls j 0)))) ≡ due' k)
        → Pass ks fs ss nodes old from l₀ due' (suc j) (set ls j v) (n + 1)
    pass_work {v} h e is next =
        let L = take nodes ls in
        let r = rec_at ks fs ss j in
        let rs = recs ks fs ss (suc j) (nodes - suc j) in
        let label_is : reworked L r ≡ v = label_local outside r L ls (λ c o. on-nodes sh ls j c h o) ∙ sym is in
        let now-set : set L j v ≡ take nodes (set ls j v) = sym (take-set-lt nodes ls j v h) in
        record {
          inside = omega arith;
          long = length-set ls j v ∙ g.long;
          kept = λ i a b. get_or-set_other ls j i v 0 (λ z. omega arith) ∙ g.kept i (omega arith) b;
          dues = λ k a b.
              changed-set old ls j v (omega (arith, g.long, sh.room)) (g.kept j (omega arith) h) (children (rec_at ks fs ss k))
              ∙ ap (λ z. z || (over j (rec_at ks fs ss k) && not (eqb v (get_or ls j 0)))) (g.dues k (omega arith) b) ∙ next k a b;
          same =
              g.same
              ∙ ap (λ qs. plus n (rework old qs j L)) (ap (recs ks fs ss j) (next-node h) ∙ recs_more ks fs ss j (nodes - suc j))
              ∙ ap (plus n) (rework-here old r rs j L (due-take j (omega arith) h ∙ e))
              ∙ ap (λ us. plus n (steps (rework old rs (suc j) us).labels (suc (rework old rs (suc j) us).count))) (ap (set L j) label_is ∙ now-set)
              ∙ ap (steps (rework old rs (suc j) (take nodes (set ls j v))).labels) (omega arith);
        }

  pass_to : {due : ℕ → Bool} {ls : List ℕ} {n : ℕ} (d j : ℕ) → Pass ks fs ss nodes old from l₀ due j ls n → j + d ≤ nodes
      → ((k : ℕ) → j ≤ k → k < j + d → due k ≡ false) → Pass ks fs ss nodes old from l₀ due (j + d) ls n
  pass_to zero j g h out = rw (add-zero j) g
  pass_to (suc d) j g h out =
      rw (add-suc j d, ← (suc-add j d)) (pass_to d (suc j) (pass_by g (omega arith) (out j (omega arith) (omega arith))) (omega arith) (λ k a b. out k (omega arith) (omega arith)))

  pub pass_until : {due : ℕ → Bool} {ls : List ℕ} {n : ℕ} (j p : ℕ) → Pass ks fs ss nodes old from l₀ due j ls n → j ≤ p → p ≤ nodes
      → ((k : ℕ) → j ≤ k → k < p → due k ≡ false) → Pass ks fs ss nodes old from l₀ due p ls n
  pass_until j p g a h out =
      let e : j + (p - j) ≡ p = omega arith in
      rw e at (pass_to (p - j) j g (omega arith) (λ k b c. out k b (omega arith)))

  pub pass_end : {due : ℕ → Bool} {ls : List ℕ} {n : ℕ} (j : ℕ) → Pass ks fs ss nodes old from l₀ due j ls n
      → ((k : ℕ) → j ≤ k → k < nodes → due k ≡ false) → steps (take nodes ls) n ≡ rework old (recs ks fs ss from (nodes - from)) from (take nodes l₀)
  pass_end {due} {ls} {n} j g out =
      let w = pass_until j nodes g g.inside (omega arith) out in
      let z : nodes - nodes ≡ 0 = omega arith in
      sym (w.same ∙ ap (plus n) (rw (z, recs-none ks fs ss nodes)) ∙ ap (steps (take nodes ls)) (add-zero n))

-- ---- one label alone has changed: the pass goes straight up
module _ (ks fs ss : List ℕ) (leaves nodes : ℕ) (ps : List ℕ) where
  pub record Walking (node : ℕ) (l₀ : List ℕ) (p : ℕ) (ls : List ℕ) (n : ℕ) : Type 0 where
    pub at : ℕ
    pub low : at ≤ p
    pub few : n ≤ at
    pub long : length ls ≡ 3072
    pub held : (old : List ℕ) → Alone nodes old l₀ node → Pass ks fs ss nodes old (suc node) l₀ (λ k. eqb k p) at ls n
    pub inside : at ≤ nodes

module _ {ks fs ss : List ℕ} {leaves nodes : ℕ} {ps : List ℕ} (lk : Linked ks fs ss leaves nodes ps) where
  pub walking_start : {l₀ : List ℕ} {node p : ℕ} → node < nodes → p ≡ get_or ps node 0 → length l₀ ≡ 3072 → Walking ks fs ss leaves nodes ps node l₀ p l₀ 0
  walking_start {l₀} {node} {p} h e long =
      record {
        at = suc node;
        low = parent_after lk h e;
        few = omega arith;
        long = long;
        inside = omega arith;
        held = λ old a.
            record {
              inside = omega arith;
              long = long;
              kept = λ i b c. a.elsewhere i c (λ z. omega arith);
              dues = λ k b c. changed-alone nodes old l₀ node a (children (rec_at ks fs ss k)) (λ d o. omega (arith, lk.shaped.below k d c o)) ∙ parent_is lk node k h c ∙ ap (eqb k) (sym e);
              same = ap (steps (rework old (recs ks fs ss (suc node) (nodes - suc node)) (suc node) (take nodes l₀)).labels) (sym (zero-add _));
            };
      }

  module _ {node p n : ℕ} {l₀ ls : List ℕ} (g : Walking ks fs ss leaves nodes ps node l₀ p ls n) where
    -- the pass up to the node that is due
    at-node : (h : p < nodes) (old : List ℕ) → Alone nodes old l₀ node → Pass ks fs ss nodes old (suc node) l₀ (λ k. eqb k p) p ls n
    at-node h old a = pass_until lk.shaped g.at p (g.held old a) g.low (omega arith) (λ k b c. ne_eqb k p (λ z. omega arith))

    -- no more are reworked than there are nodes
    pub few_stopped : p < nodes → n + 1 ≤ nodes
    few_stopped h = omega (arith, g.few, g.low)

    pub few_walked : n ≤ nodes
    few_walked = omega (arith, g.few, g.inside)

    pub walking_stop : {v : ℕ} → v ≡ get_or ls p 0 → v ≡ label outside ls (rec_at ks fs ss p) → p < nodes → (old : List ℕ) → Alone nodes old l₀ node
        → steps (take nodes ls) (n + 1) ≡ rework old (recs ks fs ss (suc node) (nodes - suc node)) (suc node) (take nodes l₀)
    walking_stop {v} s e h old a =
        let w = pass_work lk.shaped (at-node h old a) {due' = λ k. false} h (eq-eqb p p refl) e (λ k b c. rw (ne_eqb k p (λ z. omega arith), eq-eqb v (get_or ls p 0) s) (none (over p (rec_at ks fs ss k)))) in
        let back : set ls p v ≡ ls = ap (set ls p) s ∙ set-get_or ls p 0 in
        rw back at (pass_end lk.shaped (suc p) w (λ k b c. refl))
      where
        none : (x : Bool) → (x && false) ≡ false
        none true = refl
        none false = refl

    pub walking_on : {v q : ℕ} → (v ≡ get_or ls p 0 → ⊥) → v ≡ label outside ls (rec_at ks fs ss p) → p < nodes → q ≡ get_or ps p 0
        → Walking ks fs ss leaves nodes ps node l₀ q (set ls p v) (n + 1)
    walking_on {v} {q} o e h u =
        record {
          at = suc p;
          low = parent_after lk h u;
          few = omega (arith, g.few, g.low);
          long = length-set ls p v ∙ g.long;
          inside = omega arith;
          held = λ old a.
              pass_work lk.shaped (at-node h old a) h (eq-eqb p p refl) e
              (λ k b c. rw (ne_eqb k p (λ z. omega arith), ne_eqb v (get_or ls p 0) o) (all (over p (rec_at ks fs ss k)) ∙ parent_is lk p k h c ∙ ap (eqb k) (sym u)));
        }
      where
        all : (x : Bool) → (x && true) ≡ x
        all true = refl
        all false = refl

    pub walking_end : nodes ≤ p → (old : List ℕ) → Alone nodes old l₀ node → steps (take nodes ls) n ≡ rework old (recs ks fs ss (suc node) (nodes - suc node)) (suc node) (take nodes l₀)
    walking_end h old a = pass_end lk.shaped g.at (g.held old a) (λ k b c. ne_eqb k p (λ z. omega arith))
