-- A pass over a set: each node with a changed child is in it, and the lowest is reworked next.
use Prim.Native.Nat.{ℕ, suc, ◌+◌, ◌-◌, ◌*◌, ◌<◌, ◌≤◌}
use native.Mathlib.Nat.{zero-add}
use native.Mathlib.Omega.{arith}
use mathlib.Core.Path.{◌≡◌, refl, sym, ap, ◌∙◌}
use mathlib.Core.Bool.{Bool, true, false, not, ◌&&◌, ◌||◌, or-false, true≢false}
use mathlib.Core.List.{List}
use mir.Syntax.{w32}
use mir.Val.{Fits}
use lib.Dec.{eqb, ltb}
use borrow.Author.Tests.{eqb-true, eqb-false, eq-eqb, ne_eqb, lt-ltb, le-ltb, ltb-true, ltb-false}
use lib.ListN.{length, get_or, set, take, length-set}
use lib.Seq.{set-get_or}
use Rattle.contraction.specs.Records.{over}
use Rattle.contraction.specs.Entries.{rec_at, recs}
use Rattle.rising_set.specs.declared.RisingSet.{RisingSet}
use Rattle.rising_set.specs.Members.{in_set, all, Rising, Removed, Same, Empty, Put, Taken, Opened, Lowest}
use Rattle.rising_set.proofs.Sets.{lowest_in, lowest_small, lowest_first}
use Rattle.labels.specs.Linked.{Linked}
use Rattle.labels.proofs.Links.{cases, parent_is, parent_after}
use Rattle.toggle_passes.specs.Reworking.{steps, reworked, rework}
use Rattle.toggle_passes.specs.Upwards.{Due, Within, Ripe, Settled}
use Rattle.toggle_passes.proofs.Upwards.{Pass, pass_work, pass_until, pass_end}

-- the node above the one in hand is not below the word in hand
pub above_hand : {nodes k p : ℕ} {ps ws : List ℕ} {m left : RisingSet} → Ripe nodes k ps ws m → Taken m k left → p ≡ get_or ps k 0 → 64 * left.at ≤ p
above_hand rp off u = omega (arith, rp.lowest.place, rp.rises, off.stays)

pub still_rising : {nodes k : ℕ} {ps ws : List ℕ} {m left : RisingSet} → Ripe nodes k ps ws m → Taken m k left → Rising ws left
still_rising {ws = ws} rp off = off.rising ws rp.rising

-- the three ways out of a rework
module _ (ks fs ss : List ℕ) {nodes : ℕ} (ps : List ℕ) {k v : ℕ} (ls ws : List ℕ) {m left : RisingSet} (rp : Ripe nodes k ps ws m) (e : v ≡ reworked ls (rec_at ks fs ss k)) (off : Taken m k left) where
  abbrev next : List ℕ → Type 0
  next ms' = (i : ℕ) → in_set ms' i
      ≡ (in_set (all ws m) i && not (eqb i k) || (not (eqb (reworked ls (rec_at ks fs ss k)) (get_or ls k 0)) && (ltb (get_or ps k 0) nodes && eqb i (get_or ps k 0))))

  out : Removed (all ws m) k (all ws left)
  out = off.removed ws rp.rising

  settled : {ls' : List ℕ} (ws' : List ℕ) (m' : RisingSet) → ls' ≡ set ls k (reworked ls (rec_at ks fs ss k)) → Rising ws' m' → next (all ws' m') → Settled ks fs ss nodes ps k ls ws m ls' ws' m'
  settled ws' m' p r q = record { labels_are = p; rising = r; members_are = q }

  pub settled_put : {p : ℕ} (ws₂ : List ℕ) (m₂ : RisingSet) → (v ≡ get_or ls k 0 → ⊥) → p ≡ get_or ps k 0 → p < nodes → Put ws left p ws₂ m₂ → Settled ks fs ss nodes ps k ls ws m (set ls k v) ws₂ m₂
  settled_put {p} ws₂ m₂ n u h on =
      settled ws₂ m₂ (ap (set ls k) e) on.rising (λ i. on.added.so i ∙ rw (out.so i, ← e, ne_eqb v (get_or ls k 0) n, ← u, lt-ltb p nodes h))

  pub settled_top : {p : ℕ} → (v ≡ get_or ls k 0 → ⊥) → p ≡ get_or ps k 0 → nodes ≤ p → Settled ks fs ss nodes ps k ls ws m (set ls k v) ws left
  settled_top {p} n u h =
      settled ws left (ap (set ls k) e) (still_rising rp off)
      (λ i. out.so i ∙ rw (← e, ne_eqb v (get_or ls k 0) n, ← u, le-ltb p nodes h) (sym (or-false (in_set (all ws m) i && not (eqb i k)))))

  pub settled_same : v ≡ get_or ls k 0 → Settled ks fs ss nodes ps k ls ws m ls ws left
  settled_same s =
      settled ws left (sym (ap (set ls k) (sym e ∙ s) ∙ set-get_or ls k 0)) (still_rising rp off)
      (λ i. out.so i ∙ rw (← e, eq-eqb v (get_or ls k 0) s) (sym (or-false (in_set (all ws m) i && not (eqb i k)))))

-- of an equation of members
stays : (a c d : Bool) → (a && true || (c && (d && false))) ≡ a
stays true c d = refl
stays false true true = refl
stays false true false = refl
stays false false d = refl

goes : (a c d : Bool) → (a && false || (c && (d && false))) ≡ false
goes true true true = refl
goes true true false = refl
goes true false d = refl
goes false true true = refl
goes false true false = refl
goes false false d = refl

comes : (a c : Bool) → (a && true || (c && (true && true))) ≡ (a || (true && c))
comes true c = refl
comes false true = refl
comes false false = refl

from_either : (a b c d e : Bool) → (a && b || (c && (d && e))) ≡ true → (a ≡ false) → (d ≡ true) × (e ≡ true)
from_either true b c d e q z = absurd (true≢false z)
from_either false b true true true q z = (refl, refl)
from_either false b true true false q z = absurd (true≢false (sym q))
from_either false b true false e q z = absurd (true≢false (sym q))
from_either false b false d e q z = absurd (true≢false (sym q))

-- nothing is left in the set up to the node reworked
settled-low : {ks fs ss : List ℕ} {leaves nodes : ℕ} {ps : List ℕ} {k : ℕ} {ls ws ls' ws' : List ℕ} {m m' : RisingSet} → Settled ks fs ss nodes ps k ls ws m ls' ws' m' → k < nodes
    → Linked ks fs ss leaves nodes ps → Rising ws m → Lowest m k → (i : ℕ) → i < suc k → in_set (all ws' m') i ≡ false
settled-low {ks} {fs} {ss} {leaves} {nodes} {ps} {k} {ls} {ws} {m = m} s h lk r low i a =
    let v = reworked ls (rec_at ks fs ss k) in
    let p = get_or ps k 0 in
    let far : eqb i p ≡ false = ne_eqb i p (λ z. omega (arith, z, parent_after lk {b = p} h refl)) in
    cases (eqb i k)
    (λ q. s.members_are i ∙ rw (q, far) (goes (in_set (all ws m) i) (not (eqb v (get_or ls k 0))) (ltb p nodes)))
    (λ q. s.members_are i ∙ rw (q, far) (stays (in_set (all ws m) i) (not (eqb v (get_or ls k 0))) (ltb p nodes)) ∙ lowest_first r low i (omega (arith, before (eqb-false i k q))))
  where
    before : (i ≡ k → ⊥) → i < k
    before z = omega arith

module _ (ks fs ss : List ℕ) (leaves nodes : ℕ) (ps l₀ ms₀ : List ℕ) where
  -- the pass from node j on has come to some node, and nothing of the set is below it
  pub record Come (old : List ℕ) (j : ℕ) (ls ms : List ℕ) (n : ℕ) : Type 0 where
    pub at : ℕ
    pub clear : (i : ℕ) → i < at → in_set ms i ≡ false
    pub pass : Pass ks fs ss nodes old j l₀ (λ i. in_set ms i) at ls n

  pub record Settling (ls ws : List ℕ) (m : RisingSet) (n : ℕ) : Type 0 where
    pub rising : Rising ws m
    pub within : Within nodes (all ws m)
    pub empty : m.word ≡ 0 → Empty (all ws m)
    pub from : ℕ
    pub clear : (i : ℕ) → i < from → in_set (all ws m) i ≡ false
    pub few : n ≤ from
    pub long : length ls ≡ 3072
    pub held : (old : List ℕ) (j : ℕ) → Due ks fs ss nodes old l₀ ms₀ j → Come old j ls (all ws m) n

pub fewer : (n d : ℕ) → n < 3072 → 0 < d → 3072 - (n + d) < 3072 - n
fewer n d h l = omega arith

-- the next word in hand: the same set
same-due : {ks fs ss : List ℕ} {nodes : ℕ} {old ls ms ms' : List ℕ} {j : ℕ} → Same ms ms' → Due ks fs ss nodes old ls ms j → Due ks fs ss nodes old ls ms' j
same-due e d = record { inside = d.inside; kept = d.kept; low = λ k l. e.so k ∙ d.low k l; dues = λ k a b. d.dues k a b ∙ sym (e.so k) }

same-within : {nodes : ℕ} {ms ms' : List ℕ} → Same ms ms' → Within nodes ms → Within nodes ms'
same-within e w = record { node = λ k l q. w.node k l (sym (e.so k) ∙ q) }

same_pass : {ks fs ss : List ℕ} {nodes : ℕ} {old : List ℕ} {from : ℕ} {l₀ ls : List ℕ} {j n : ℕ} (ms ms' : List ℕ) → Same ms ms'
    → Pass ks fs ss nodes old from l₀ (λ i. in_set ms i) j ls n → Pass ks fs ss nodes old from l₀ (λ i. in_set ms' i) j ls n
same_pass ms ms' e g = record { inside = g.inside; long = g.long; kept = g.kept; dues = λ k a b. g.dues k a b ∙ sym (e.so k); same = g.same }

module _ {ks fs ss : List ℕ} {leaves nodes : ℕ} {ps : List ℕ} (lk : Linked ks fs ss leaves nodes ps) {l₀ : List ℕ} where
  pub settling_start : {ws ws₀ : List ℕ} {m m₀ : RisingSet} → Within nodes (all ws m) → Opened ws m ws₀ m₀ → length l₀ ≡ 3072
      → Settling ks fs ss leaves nodes ps l₀ (all ws₀ m₀) l₀ ws₀ m₀ 0
  settling_start {ws} {ws₀} {m} {m₀} inn o long =
      record {
        rising = o.rising;
        within = same-within o.same inn;
        empty = o.empty;
        from = 0;
        clear = λ i l. absurd (omega arith);
        few = omega arith;
        long = long;
        held = λ old j d.
            record {
              at = j;
              clear = d.low;
              pass =
                  record {
                    inside = d.inside;
                    long = long;
                    kept = d.kept;
                    dues = d.dues;
                    same = ap (steps (rework old (recs ks fs ss j (nodes - j)) j (take nodes l₀)).labels) (sym (zero-add _));
                  };
            };
      }

  module _ {ms₀ : List ℕ} {n : ℕ} {ls ws : List ℕ} {m : RisingSet} (g : Settling ks fs ss leaves nodes ps l₀ ms₀ ls ws m n) where
    settling_end : m.word ≡ 0 → (old : List ℕ) (j : ℕ) → Due ks fs ss nodes old l₀ ms₀ j → steps (take nodes ls) n ≡ rework old (recs ks fs ss j (nodes - j)) j (take nodes l₀)
    settling_end h old j d =
        let c = g.held old j d in
        pass_end lk.shaped c.at c.pass (λ i a b. (g.empty h).none i)

    module _ {k : ℕ} (low : Lowest m k) where
      is_node : k < nodes
      is_node = g.within.node k (lowest_small g.rising low) (lowest_in g.rising low)

      -- a bound below which nothing of the set is is not above k
      not_above : (b : ℕ) → ((i : ℕ) → i < b → in_set (all ws m) i ≡ false) → b ≤ k
      not_above b out =
          cases (ltb k b) (λ q. absurd (true≢false (sym (lowest_in g.rising low) ∙ out k (ltb-true k b q)))) (λ q. ltb-false k b q)

      pub settling_few : n < 3072
      settling_few = omega (arith, g.few, not_above g.from g.clear, is_node, lk.shaped.room)

      pub settling_fits : (d : ℕ) → d < 4294964224 → Fits w32 (n + d)
      settling_fits d h = record { fits = omega (arith, settling_few) }

      pub settling_ripe : Ripe nodes k ps ws m
      settling_ripe = record { room = lk.shaped.room; node = is_node; rising = g.rising; lowest = low; rises = parent_after lk is_node refl }

      module _ {ls' ws' : List ℕ} {m' : RisingSet} (s : Settled ks fs ss nodes ps k ls ws m ls' ws' m') where
        abbrev v : ℕ
        v = reworked ls (rec_at ks fs ss k)

        abbrev p : ℕ
        p = get_or ps k 0

        settled-within : Within nodes (all ws' m')
        settled-within =
            record {
              node = λ i a q.
                  cases (in_set (all ws m) i) (λ o. g.within.node i a o)
                  (λ o.
                  let w = from_either (in_set (all ws m) i) (not (eqb i k)) (not (eqb v (get_or ls k 0))) (ltb p nodes) (eqb i p) (sym (s.members_are i) ∙ q) o in
                  omega (arith, eqb-true i p w.1, ltb-true p nodes w.0));
            }

        -- the members above k are what is due there now
        members_due : (i : ℕ) → k < i → i < nodes → (in_set (all ws m) i || (over k (rec_at ks fs ss i) && not (eqb v (get_or ls k 0)))) ≡ in_set (all ws' m') i
        members_due i a b =
            let apart : eqb i k ≡ false = ne_eqb i k (λ z. omega arith) in
            cases (eqb i p)
            (λ q. rw (parent_is lk k i is_node b, q)
            (sym (s.members_are i ∙ rw (apart, q, lt-ltb p nodes (omega (arith, eqb-true i p q))) (comes (in_set (all ws m) i) (not (eqb v (get_or ls k 0)))))))
            (λ q. rw (parent_is lk k i is_node b, q)
            (or-false (in_set (all ws m) i) ∙ sym (s.members_are i ∙ rw (apart, q) (stays (in_set (all ws m) i) (not (eqb v (get_or ls k 0))) (ltb p nodes)))))

        cleared : (i : ℕ) → i < suc k → in_set (all ws' m') i ≡ false
        cleared = settled-low s is_node lk g.rising low

        pub settling_on : {ws'' : List ℕ} {m'' : RisingSet} → Opened ws' m' ws'' m'' → Settling ks fs ss leaves nodes ps l₀ ms₀ ls' ws'' m'' (n + 1)
        settling_on {ws''} {m''} o =
            record {
              rising = o.rising;
              within = same-within o.same settled-within;
              empty = o.empty;
              from = suc k;
              clear = λ i l. o.same.so i ∙ cleared i l;
              few = omega (arith, g.few, not_above g.from g.clear);
              long = rw s.labels_are (length-set ls k v ∙ g.long);
              held = λ old j d.
                  let c = g.held old j d in
                  let here = pass_until lk.shaped c.at k c.pass (not_above c.at c.clear) (omega (arith, is_node)) (λ i a b. lowest_first g.rising low i b) in
                  record {
                    at = suc k;
                    clear = λ i l. o.same.so i ∙ cleared i l;
                    pass =
                        same_pass (all ws' m') (all ws'' m'') o.same
                        (rw s.labels_are
                        (pass_work lk.shaped here {due' = λ i. in_set (all ws' m') i} is_node (lowest_in g.rising low) refl members_due));
                  };
            }

  pub settling_ends : {ws ws₀ ws₁ ls : List ℕ} {m m₀ m₁ : RisingSet} {n : ℕ} → Opened ws m ws₀ m₀ → Settling ks fs ss leaves nodes ps l₀ (all ws₀ m₀) ls ws₁ m₁ n → m₁.word ≡ 0
      → (old : List ℕ) (j : ℕ) → Due ks fs ss nodes old l₀ (all ws m) j → steps (take nodes ls) n ≡ rework old (recs ks fs ss j (nodes - j)) j (take nodes l₀)
  settling_ends o g h old j d = settling_end g h old j (same-due o.same d)
