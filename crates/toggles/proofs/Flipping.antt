-- The leaves of a shape flipped one after the other, and the nodes above them put into a set; so a toggle of one leaf and of several.
use Prim.Native.Nat.{ℕ, zero, suc, ◌+◌, ◌-◌, ◌<◌, ◌≤◌}
use native.Mathlib.Omega.{arith}
use mathlib.Core.Path.{◌≡◌, refl, sym, ap, ◌∙◌}
use mathlib.Core.Bool.{Bool, true, false, ◌&&◌, ◌||◌, or-false, true≢false, false≢true}
use mathlib.Core.List.{List, [], ◌∷◌}
use mathlib.Core.Logic.{⊎_elim}
use lib.Dec.{eqb, ltb}
use borrow.Author.Tests.{eqb-true, eqb-false, eq-eqb, ne_eqb, lt-ltb, le-ltb, ltb-true, ltb-false}
use lib.ListN.{length, get_or, set, take, replicate, length-set}
use lib.Seq.{get_or-take, get_or-set_same, get_or-set_other, take-set-lt}
use Rattle.contraction.specs.Records.{Rec, is_leaf, children, listed, over}
use Rattle.contraction.specs.Entries.{kind_at, rec_at, recs}
use Rattle.contraction.proofs.EntryLaws.{recs_more}
use Rattle.rising_set.specs.declared.RisingSet.{RisingSet}
use Rattle.rising_set.specs.Members.{in_set, all, Rising, Put}
use Rattle.rising_set.proofs.Sets.{rising_none, empty_none}
use Rattle.labels.specs.Labels.{is_of}
use Rattle.labels.specs.Linked.{seek, Shaped, Linked, Ready}
use Rattle.labels.proofs.Links.{cases, found, jump, done, parent_is, parent_over}
use Rattle.toggle_passes.specs.Reworking.{steps, changed, rework}
use Rattle.toggle_passes.specs.Upwards.{Alone, Due, Within}
use Rattle.toggle_passes.proofs.Reworking.{rework_skip, leaf-none}
use Rattle.toggle_passes.proofs.Upwards.{changed-set}
use Rattle.toggles.specs.Toggles.{flip, flip_leaves, toggle}
use Rattle.toggles.specs.Flipping.{Bare, AddedNode, Flipped}

-- a node put in, where there is one
pub node_put : {ws ws' : List ℕ} {m m' : RisingSet} {p nodes : ℕ} → p < nodes → m.at ≡ 0 → Put ws m p ws' m' → AddedNode nodes p ws m ws' m'
node_put {p = p} {nodes = nodes} h f on = record { rising = on.rising; first = on.stays ∙ f; so = λ i. on.added.so i ∙ rw (lt-ltb p nodes h) }

pub node-none : {ws : List ℕ} {m : RisingSet} {p nodes : ℕ} → nodes ≤ p → m.at ≡ 0 → Rising ws m → AddedNode nodes p ws m ws m
node-none {ws} {m} {p} {nodes} h f r = record { rising = r; first = f; so = λ i. rw (le-ltb p nodes h) (sym (or-false (in_set (all ws m) i))) }

-- a set with nothing in it
pub taken_out : {m : RisingSet} → m.at ≡ 0 → m.word ≡ 0 → m.held ≡ 0 → Bare (replicate 48 0) m
taken_out a w h = record { rising = rising_none a w h; first = a; empty = empty_none a w h }

-- the two ways of a leaf's record
flip_skip : (s : ℕ) (r : Rec) (rs : List Rec) (i : ℕ) (ls : List ℕ) → is_of s r ≡ false → flip_leaves s (r ∷ rs) i ls ≡ flip_leaves s rs (suc i) ls
flip_skip s r rs i ls e = rw e

flip-here : (s : ℕ) (r : Rec) (rs : List Rec) (i : ℕ) (ls : List ℕ) → is_of s r ≡ true → flip_leaves s (r ∷ rs) i ls ≡ flip_leaves s rs (suc i) (set ls i (flip (get_or ls i 0)))
flip-here s r rs i ls e = rw e

-- the other bit is another
flip-other : (x : ℕ) → eqb (flip x) x ≡ false
flip-other zero = refl
flip-other (suc x) = ne_eqb 0 (suc x) (λ e. omega arith)

and_both : (a b : Bool) → a && b ≡ true → (a ≡ true) × (b ≡ true)
and_both true true e = (refl, refl)
and_both true false e = absurd (false≢true e)
and_both false b e = absurd (false≢true e)

changed-none : (old ls cs : List ℕ) → ((c : ℕ) → listed c cs ≡ true → get_or ls c 0 ≡ get_or old c 0) → changed old ls cs ≡ false
changed-none old ls [] h = refl
changed-none old ls (c ∷ cs) h =
    rw (eq-eqb (get_or ls c 0) (get_or old c 0) (h c (rw (eq-eqb c c refl)))) (changed-none old ls cs (λ d l. h d (later (eqb d c) (listed d cs) l)))
  where
    later : (a b : Bool) → b ≡ true → a || b ≡ true
    later true b e = refl
    later false b e = e

-- where nothing has changed, nothing is reworked
rework-none : (ls : List ℕ) (rs : List Rec) (j : ℕ) → rework ls rs j ls ≡ steps ls 0
rework-none ls [] j = refl
rework-none ls (r ∷ rs) j = rework_skip ls r rs j ls (changed-none ls ls (children r) (λ c l. refl)) ∙ rework-none ls rs (suc j)

module _ {ks fs ss : List ℕ} {leaves nodes : ℕ} (sh : Shaped ks fs ss leaves nodes) where
  -- no leaf is reworked
  leaves_first : (old ls : List ℕ) (j : ℕ) → j ≤ leaves → rework old (recs ks fs ss 0 nodes) 0 ls ≡ rework old (recs ks fs ss j (nodes - j)) j ls
  leaves_first old ls zero h = let e : nodes ≡ nodes - 0 = omega arith in ap (λ n. rework old (recs ks fs ss 0 n) 0 ls) e
  leaves_first old ls (suc j) h =
      let e : nodes - j ≡ suc (nodes - suc j) = omega (arith, sh.within) in
      leaves_first old ls j (omega arith) ∙ ap (λ n. rework old (recs ks fs ss j n) j ls) e
      ∙ ap (λ rs. rework old rs j ls) (recs_more ks fs ss j (nodes - suc j))
      ∙ rework_skip old (rec_at ks fs ss j) (recs ks fs ss (suc j) (nodes - suc j)) j ls (ap (changed old ls) (leaf-none (rec_at ks fs ss j) (sh.leaf j (omega arith))))

-- the leaves below `from` are done, and a is the next of the shape
module _ (ks fs ss : List ℕ) (leaves nodes : ℕ) (links : List ℕ) (s : ℕ) (old : List ℕ) where
  pub record FlippedBelow (a : ℕ) (ls : List ℕ) : Type 0 where
    pub from : ℕ
    pub inside : from ≤ leaves
    pub here : a ≡ seek (is_of s) from (recs ks fs ss from (nodes - from))
    pub same : flip_leaves s (recs ks fs ss 0 nodes) 0 (take nodes old) ≡ flip_leaves s (recs ks fs ss from (nodes - from)) from (take nodes ls)
    pub kept : (i : ℕ) → from ≤ i → get_or ls i 0 ≡ get_or old i 0
    pub long : length ls ≡ 3072

  -- and the nodes above them are in the set
  pub record Flipping (a : ℕ) (ls ws : List ℕ) (m : RisingSet) : Type 0 where
    pub flipped_below : FlippedBelow a ls
    pub rising : Rising ws m
    pub first : m.at ≡ 0
    pub within : Within nodes (all ws m)
    pub low : (k : ℕ) → k < leaves → in_set (all ws m) k ≡ false
    pub dues : (k : ℕ) → k < nodes → changed (take nodes old) ls (children (rec_at ks fs ss k)) ≡ in_set (all ws m) k

module _ {ks fs ss : List ℕ} {leaves nodes : ℕ} {links : List ℕ} (rd : Ready ks fs ss leaves nodes links) {s : ℕ} {old : List ℕ} where
  flipped-start : {a : ℕ} → s < 256 → a ≡ get_or links (3072 + s) 0 → length old ≡ 3072 → FlippedBelow ks fs ss leaves nodes links s old a old
  flipped-start h e long =
      let d : nodes ≡ nodes - 0 = omega arith in
      record {
        from = 0;
        inside = omega arith;
        here = e ∙ rd.chains.first s h ∙ ap (λ n. seek (is_of s) 0 (recs ks fs ss 0 n)) d;
        same = ap (λ n. flip_leaves s (recs ks fs ss 0 n) 0 (take nodes old)) d;
        kept = λ i b. refl;
        long = long;
      }

  module _ {a : ℕ} {ls : List ℕ} (g : FlippedBelow ks fs ss leaves nodes links s old a ls) where
    nodes-left : g.from + (nodes - g.from) ≡ nodes
    nodes-left = omega (arith, g.inside, rd.linked.shaped.within)

    -- a leaf of the shape is one of the leaves, which come first
    past-leaves : leaves ≤ a → nodes ≤ a
    past-leaves h =
        ⊎_elim (λ e. omega (arith, e, g.here, rd.linked.shaped.room))
        (λ w. absurd (true≢false (sym (ap (λ k. is_leaf (kind_at (get_or ks k 0))) g.here ∙ (and_both _ _ w.0).0) ∙ rd.linked.shaped.inner a h (omega (arith, w.2, g.here, nodes-left)))))
        (found ks fs ss (is_of s) (nodes - g.from) g.from)

    flipped_end : leaves ≤ a → take nodes ls ≡ flip_leaves s (recs ks fs ss 0 nodes) 0 (take nodes old)
    flipped_end h =
        sym (g.same ∙ done (is_of s) (λ rs i. flip_leaves s rs i (take nodes ls)) (take nodes ls) (λ i. refl) (λ r rs i q. flip_skip s r rs i (take nodes ls) q)
        ks fs ss (nodes - g.from) g.from (omega (arith, nodes-left, g.here, past-leaves h)))

    is_here : a < leaves → (is_of s (rec_at ks fs ss a) ≡ true) × (g.from ≤ a)
    is_here h =
        ⊎_elim (λ e. absurd (omega (arith, e, g.here, rd.linked.shaped.few))) (λ w. (rw g.here w.0, omega (arith, g.here, w.1)))
        (found ks fs ss (is_of s) (nodes - g.from) g.from)

    module _ {v : ℕ} (h : a < leaves) (e : v ≡ flip (get_or ls a 0)) where
      flipped-here : set (take nodes ls) a (flip (get_or (take nodes ls) a 0)) ≡ take nodes (set ls a v)
      flipped-here =
          let l : a < nodes = omega (arith, rd.linked.shaped.within) in
          ap (λ x. set (take nodes ls) a (flip x)) (get_or-take nodes ls a 0 l) ∙ ap (set (take nodes ls) a) (sym e) ∙ sym (take-set-lt nodes ls a v l)

      at_leaf : flip_leaves s (recs ks fs ss 0 nodes) 0 (take nodes old) ≡ flip_leaves s (recs ks fs ss (suc a) (nodes - suc a)) (suc a) (take nodes (set ls a v))
      at_leaf =
          let rs = recs ks fs ss (suc a) (nodes - suc a) in
          g.same ∙ jump (is_of s) (λ rs i. flip_leaves s rs i (take nodes ls)) (take nodes ls) (λ i. refl) (λ r rs i q. flip_skip s r rs i (take nodes ls) q)
          ks fs ss (nodes - g.from) g.from (omega (arith, nodes-left, rd.linked.shaped.room)) (omega (arith, nodes-left, g.here, rd.linked.shaped.within))
          ∙ rw (nodes-left, ← g.here) (flip-here s (rec_at ks fs ss a) rs a (take nodes ls) (is_here h).0) ∙ ap (flip_leaves s rs (suc a)) flipped-here

      flipped-on : {b : ℕ} → b ≡ get_or links (3328 + a) 0 → FlippedBelow ks fs ss leaves nodes links s old b (set ls a v)
      flipped-on {b} q =
          let shape : get_or fs a 0 ≡ s = eqb-true (get_or fs a 0) s (and_both (is_leaf (kind_at (get_or ks a 0))) (eqb (get_or fs a 0) s) (is_here h).0).1 in
          record {
            from = suc a;
            inside = h;
            here = q ∙ rd.chains.next a h ∙ ap (λ t. seek (is_of t) (suc a) (recs ks fs ss (suc a) (nodes - suc a))) shape;
            same = at_leaf;
            kept = λ i c. get_or-set_other ls a i v 0 (λ z. omega arith) ∙ g.kept i (omega (arith, (is_here h).1));
            long = length-set ls a v ∙ g.long;
          }

pub leaf-inside : {ks fs ss : List ℕ} {leaves nodes : ℕ} {a : ℕ} → Shaped ks fs ss leaves nodes → a < leaves → a < nodes
leaf-inside sh h = omega (arith, sh.within)

-- a toggle whose shape has no leaf
pub toggle-none : {ks fs ss : List ℕ} {leaves nodes : ℕ} {links : List ℕ} → Ready ks fs ss leaves nodes links → {s a : ℕ} (ls : List ℕ) → leaves ≤ a → a ≡ get_or links (3072 + s) 0 → s < 256
    → length ls ≡ 3072 → steps (take nodes ls) 0 ≡ toggle (recs ks fs ss 0 nodes) s (take nodes ls)
toggle-none {ks} {fs} {ss} {leaves} {nodes} rd {s} ls past e h long =
    let still = flipped_end rd (flipped-start rd {s = s} {old = ls} h e long) past in
    sym (ap (rework (take nodes ls) (recs ks fs ss 0 nodes) 0) (sym still) ∙ rework-none (take nodes ls) (recs ks fs ss 0 nodes) 0)

-- one whose shape has a single leaf, a
pub toggle-one : {ks fs ss : List ℕ} {leaves nodes : ℕ} {links : List ℕ} → Ready ks fs ss leaves nodes links → {s a b v n : ℕ} (ls ms : List ℕ) → a < leaves → a ≡ get_or links (3072 + s) 0
    → leaves ≤ b → b ≡ get_or links (3328 + a) 0 → v ≡ flip (get_or ls a 0) → s < 256 → length ls ≡ 3072
    → ((old : List ℕ) → Alone nodes old (set ls a v) a → steps (take nodes ms) n ≡ rework old (recs ks fs ss (suc a) (nodes - suc a)) (suc a) (take nodes (set ls a v)))
    → steps (take nodes ms) n ≡ toggle (recs ks fs ss 0 nodes) s (take nodes ls)
toggle-one {ks} {fs} {ss} {leaves} {nodes} rd {s} {a} {b} {v} ls ms h e past q f small long walked =
    let sh = rd.linked.shaped in
    let L = take nodes ls in
    let t = flipped-start rd {s = s} {old = ls} small e long in
    let flipped_leaf = flipped_end rd (flipped-on rd t h f q) past in
    walked L alone ∙ sym (leaves_first sh L (take nodes (set ls a v)) (suc a) h) ∙ ap (rework L (recs ks fs ss 0 nodes) 0) flipped_leaf
  where
    alone : Alone nodes (take nodes ls) (set ls a v) a
    alone =
        record {
          differs = λ z. absurd (eqb-false (flip (get_or ls a 0)) (get_or ls a 0) (flip-other (get_or ls a 0))
              (sym f ∙ sym (get_or-set_same ls a v 0 (omega (arith, rd.linked.shaped.few))) ∙ z ∙ get_or-take nodes ls a 0 (omega (arith, rd.linked.shaped.within))));
          elsewhere = λ i l o. get_or-set_other ls a i v 0 o ∙ sym (get_or-take nodes ls i 0 l);
        }

-- the members on the way
module _ {ks fs ss : List ℕ} {leaves nodes : ℕ} {links : List ℕ} (rd : Ready ks fs ss leaves nodes links) {s : ℕ} {old : List ℕ} where
  pub flipping_start : {a : ℕ} {ws : List ℕ} {m : RisingSet} → s < 256 → a ≡ get_or links (3072 + s) 0 → length old ≡ 3072 → Bare ws m → Flipping ks fs ss leaves nodes links s old a old ws m
  flipping_start h e long bare =
      record {
        flipped_below = flipped-start rd h e long;
        rising = bare.rising;
        first = bare.first;
        within = record { node = λ k l o. absurd (true≢false (sym o ∙ bare.empty.none k)) };
        low = λ k l. bare.empty.none k;
        dues = λ k l.
            changed-none (take nodes old) old (children (rec_at ks fs ss k)) (λ c o. sym (get_or-take nodes old c 0 (omega (arith, rd.linked.shaped.below k c l o))))
            ∙ sym (bare.empty.none k);
      }

  module _ {a : ℕ} {ls ws : List ℕ} {m : RisingSet} (g : Flipping ks fs ss leaves nodes links s old a ls ws m) where
    pub flipping_end : leaves ≤ a → Flipped ks fs ss leaves nodes s old ls ws m
    flipping_end h =
        let t = g.flipped_below in
        record {
          labels_are = flipped_end rd t h;
          long = t.long;
          rising = g.rising;
          within = g.within;
          due =
              record {
                inside = rd.linked.shaped.within;
                kept = λ i b l. t.kept i (omega (arith, t.inside)) ∙ sym (get_or-take nodes old i 0 l);
                low = g.low;
                dues = λ k b l. g.dues k l;
              };
        }

    module _ {p v : ℕ} {ws' : List ℕ} {m' : RisingSet} (h : a < leaves) (e : v ≡ flip (get_or ls a 0)) (u : p ≡ get_or links a 0) (on : AddedNode nodes p ws m ws' m') where
      in_nodes : a < nodes
      in_nodes = omega (arith, rd.linked.shaped.within)

      -- the node above a leaf is no leaf
      above_leaves : p < nodes → leaves ≤ p
      above_leaves l =
          cases (ltb p leaves)
          (λ q. absurd (clash (ltb-true p leaves q)))
          (λ q. ltb-false p leaves q)
        where
          clash : p < leaves → ⊥
          clash c =
              let o : over a (rec_at ks fs ss p) ≡ true = rw u (parent_over rd.linked a in_nodes (omega arith)) in
              let none : over a (rec_at ks fs ss p) ≡ false = ap (listed a) (leaf-none (rec_at ks fs ss p) (rd.linked.shaped.leaf p c)) in
              true≢false (sym o ∙ none)

      either : (x y z : Bool) → (x || (y && z)) ≡ true → x ≡ false → (y ≡ true) × (z ≡ true)
      either true y z q w = absurd (true≢false w)
      either false true true q w = (refl, refl)
      either false true false q w = absurd (true≢false (sym q))
      either false false z q w = absurd (true≢false (sym q))

      flipping_on : {b : ℕ} → b ≡ get_or links (3328 + a) 0 → Flipping ks fs ss leaves nodes links s old b (set ls a v) ws' m'
      flipping_on q =
          record {
            flipped_below = flipped-on rd g.flipped_below h e q;
            rising = on.rising;
            first = on.first;
            within =
                record {
                  node = λ k l o.
                      cases (in_set (all ws m) k) (λ y. g.within.node k l y)
                      (λ y. let w = either (in_set (all ws m) k) (ltb p nodes) (eqb k p) (sym (on.so k) ∙ o) y in omega (arith, eqb-true k p w.1, ltb-true p nodes w.0));
                };
            low = λ k l.
                cases (in_set (all ws' m') k)
                (λ o. let w = either (in_set (all ws m) k) (ltb p nodes) (eqb k p) (sym (on.so k) ∙ o) (g.low k l) in
                absurd (omega (arith, eqb-true k p w.1, above_leaves (ltb-true p nodes w.0))))
                (λ o. o);
            dues = λ k l.
                changed-set (take nodes old) ls a v (omega (arith, g.flipped_below.long, rd.linked.shaped.few)) as_before (children (rec_at ks fs ss k))
                ∙ rw (g.dues k l, parent_is rd.linked a k in_nodes l, ← u, e, flip-other (get_or ls a 0)) (joined k l) ∙ sym (on.so k);
          }
        where
          as_before : get_or ls a 0 ≡ get_or (take nodes old) a 0
          as_before = g.flipped_below.kept a (is_here rd g.flipped_below h).1 ∙ sym (get_or-take nodes old a 0 in_nodes)

          joined : (k : ℕ) → k < nodes → (in_set (all ws m) k || (eqb k p && true)) ≡ (in_set (all ws m) k || (ltb p nodes && eqb k p))
          joined k l = cases (eqb k p) (λ z. rw (z, lt-ltb p nodes (omega (arith, eqb-true k p z)))) (λ z. rw z (ap (λ w. in_set (all ws m) k || w) (sym (none (ltb p nodes)))))
            where
              none : (x : Bool) → (x && false) ≡ false
              none true = refl
              none false = refl

-- the same as the loop meets it: the node put in and the state before it come first, since they tell of what the rest is
pub flipping_more : {ks fs ss : List ℕ} {leaves nodes : ℕ} {links : List ℕ} {s : ℕ} {old : List ℕ} {a b p v : ℕ} {ls ws ws' : List ℕ} {m m' : RisingSet} → AddedNode nodes p ws m ws' m'
    → Flipping ks fs ss leaves nodes links s old a ls ws m → Ready ks fs ss leaves nodes links → a < leaves → v ≡ flip (get_or ls a 0) → p ≡ get_or links a 0 → b ≡ get_or links (3328 + a) 0
    → Flipping ks fs ss leaves nodes links s old b (set ls a v) ws' m'
flipping_more on g rd h e u q = flipping_on rd g h e u on q

-- a toggle whose shape has several leaves
pub toggle_several : {ks fs ss : List ℕ} {leaves nodes : ℕ} {ps : List ℕ} → Linked ks fs ss leaves nodes ps → {s n : ℕ} (old ls ws : List ℕ) (m : RisingSet) (ls' : List ℕ) → Flipped ks fs ss leaves nodes s old ls ws m
    → ((before : List ℕ) (j : ℕ) → Due ks fs ss nodes before ls (all ws m) j → steps (take nodes ls') n ≡ rework before (recs ks fs ss j (nodes - j)) j (take nodes ls))
    → steps (take nodes ls') n ≡ toggle (recs ks fs ss 0 nodes) s (take nodes old)
toggle_several {ks} {fs} {ss} {leaves} {nodes} lk old ls ws m ls' f settled =
    settled (take nodes old) leaves f.due ∙ sym (leaves_first lk.shaped (take nodes old) (take nodes ls) leaves (omega arith))
    ∙ ap (rework (take nodes old) (recs ks fs ss 0 nodes) 0) f.labels_are
