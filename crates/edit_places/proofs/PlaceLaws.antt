-- Where the nodes stand, worked out in rising order; the nodes entered at their positions; and that these are the nodes of the positions.
use Prim.Native.Nat.{ℕ, zero, suc, ◌+◌, ◌≤◌, ◌<◌}
use native.Mathlib.Nat.{zero-add, add-zero}
use native.Mathlib.Numerals.{add-one}
use native.Mathlib.Omega.{arith}
use mathlib.Core.Path.{◌≡◌, refl, sym, ap, ◌∙◌}
use mathlib.Core.Bool.{Bool, true, false, cond, ◌&&◌}
use mathlib.Core.List.{List, [], ◌∷◌, ◌++◌, map}
use lib.Dec.{eqb, leb}
use lib.ListN.{length, get_or, set, take, replicate, length-set, length-replicate, get_or-replicate, length-append, get_or-map}
use lib.Seq.{get_or-set_same, get_or-set_other, get_or-take, get_or-append-add}
use borrow.Author.Tests.{eqb-true, eqb-false, eq-eqb}
use Rattle.formula.specs.Formula.{Formula, first_operation, postfix, leaves as leaves_of}
use Rattle.contraction.specs.Records.{Kind, leaf as leaf_kind, E, R, S, C, number, Rec, is_leaf, below, listed, over}
use Rattle.contraction.specs.Rounds.{dwarf, leaf_recs, enough, planted}
use Rattle.edits.specs.Edits.{node_at}
use Rattle.edits.specs.Changes.{no_rec, operations}
use Rattle.edits.specs.Spots.{works, spot, operates}
use Rattle.contraction.proofs.Worked.{Good}
use Rattle.contraction.proofs.EntryLaws.{kind_at-number}
use Rattle.contraction.proofs.Rounds.{all_made, dwarf-all, length-leaf_recs}
use Rattle.edits.proofs.Spots.{Placed}
use Rattle.edits.proofs.Single.{dwarf-standing, count}
use Rattle.edits.proofs.Edits.{node-placed, node-none, none-stand}
use Rattle.edits.proofs.Codes.{operation-code}
use Rattle.labels.specs.Arrays.{Holds}
use Rattle.contraction.specs.Entries.{kind_at, rec_at}
use Rattle.labels.proofs.Held.{held_shaped}
use Rattle.edit_places.specs.Places.{Buildable, Places, PlacesFilled}
use Rattle.edit_places.specs.Standing.{Scanned, ScanDone, spot_of, Falls, StandTo, works_at, last_of, entered, EnteredTo}
use Rattle.edit_places.proofs.ScanLaws.{leaves-agree}

-- ---- where the nodes stand
module _ (ks fs ups known : List ℕ) (leaves nodes : ℕ) where
  -- up to node k it is written where each node stands
  pub record Standing (k : ℕ) (xs : List ℕ) : Type 0 where
    pub falls : Falls fs leaves nodes
    pub above : leaves ≤ k
    pub within : k ≤ nodes
    pub long : length xs ≡ 3072
    pub so : StandTo ks fs ups known leaves k xs

  pub standing-start : Falls fs leaves nodes → length known ≡ 3072 → Standing leaves known
  standing-start falls long =
      record {
        falls = falls;
        above = omega arith;
        within = falls.within;
        long = long;
        so = record { kept = λ i h. refl; right = λ i g h. absurd (omega arith) };
      }

module _ {ks fs ups known : List ℕ} {leaves nodes k : ℕ} {xs : List ℕ} (u : Standing ks fs ups known leaves nodes k xs) where
  pub standing_more : {v : ℕ} → k < nodes → v ≡ spot_of ups xs (get_or ks k 0) (get_or fs k 0) → Standing ks fs ups known leaves nodes (k + 1) (set xs k v)
  standing_more {v} h e =
      record {
        falls = u.falls;
        above = omega (arith, u.above);
        within = omega arith;
        long = length-set xs k v ∙ u.long;
        so =
            record {
              kept = λ i l. get_or-set_other xs k i v 0 (λ z. omega (arith, u.above)) ∙ u.so.kept i l;
              right = λ i a b. go i a b (eqb i k) refl;
            };
      }
    where
      same : (i : ℕ) → leaves ≤ i → i ≤ k → spot_of ups xs (get_or ks i 0) (get_or fs i 0) ≡ spot_of ups (set xs k v) (get_or ks i 0) (get_or fs i 0)
      same i a b =
          let z : get_or (set xs k v) (get_or fs i 0) 0 ≡ get_or xs (get_or fs i 0) 0 =
          get_or-set_other xs k (get_or fs i 0) v 0 (λ z. omega (arith, u.falls.below i a (omega arith))) in
          ap (λ (w : ℕ). cond (works (kind_at (get_or ks i 0))) (get_or ups w 0) w) (sym z)

      go : (i : ℕ) → leaves ≤ i → i < k + 1 → (b : Bool) → eqb i k ≡ b → get_or (set xs k v) i 0 ≡ spot_of ups (set xs k v) (get_or ks i 0) (get_or fs i 0)
      go i a b true q =
          let z : i ≡ k = eqb-true i k q in
          rw z (get_or-set_same xs k v 0 (omega (arith, u.long, u.falls.room)) ∙ e ∙ same k u.above (omega arith))
      go i a b false q =
          let n : i ≡ k → ⊥ = eqb-false i k q in
          get_or-set_other xs k i v 0 n ∙ u.so.right i a (less n) ∙ same i a (omega arith)
        where
          less : (i ≡ k → ⊥) → i < k
          less n = omega arith

  pub standing_end : nodes ≤ k → StandTo ks fs ups known leaves nodes xs
  standing_end h = let end : nodes ≡ k = omega (arith, u.within) in rw end u.so

-- ---- the nodes entered
module _ (test : ℕ → Bool) (k : ℕ) where
  last-here : test k ≡ true → last_of test (k + 1) ≡ k
  unfolding last_of
  last-here e = rw (add-one k, last_of, e)

  last-past : test k ≡ false → last_of test (k + 1) ≡ last_of test k
  unfolding last_of
  last-past e = rw (add-one k, last_of, e)

last_none : (test : ℕ → Bool) (k : ℕ) → ((i : ℕ) → i < k → test i ≡ true → ⊥) → last_of test k ≡ 65535
unfolding last_of
last_none test zero h = refl
last_none test (suc k) h = go (test k) refl (last_none test k (λ i l. h i (omega arith)))
  where
    go : (b : Bool) → test k ≡ b → last_of test k ≡ 65535 → last_of test (suc k) ≡ 65535
    go true e z = absurd (h k (omega arith) e)
    go false e z = rw (last_of, e) z

last_one : (test : ℕ → Bool) (k i : ℕ) → i < k → test i ≡ true → ((j : ℕ) → j < k → test j ≡ true → j ≡ i) → last_of test k ≡ i
unfolding last_of
last_one test zero i l e h = absurd (omega arith)
last_one test (suc k) i l e h = go (test k) refl (last_one test k i)
  where
    below : (i ≡ k → ⊥) → i < suc k → i < k
    below n a = omega arith

    go : (b : Bool) → test k ≡ b → (i < k → test i ≡ true → ((j : ℕ) → j < k → test j ≡ true → j ≡ i) → last_of test k ≡ i) → last_of test (suc k) ≡ i
    go true q z = rw (last_of, q) (h k (omega arith) q)
    go false q z =
        rw (last_of, q) (z (below (λ s. differ (sym q ∙ ap test (sym s) ∙ e)) l) e (λ j a. h j (omega arith)))
      where
        differ : false ≡ true → ⊥
        differ s = let y : ◌≡◌ {A = ℕ} 0 1 = cc in omega arith

module _ (ks xs : List ℕ) (nodes : ℕ) where
  -- the first k nodes are entered
  pub record Entering (k : ℕ) (places : List ℕ) : Type 0 where
    pub room : nodes ≤ 3072
    pub within : k ≤ nodes
    pub so : EnteredTo ks xs k places

  pub entering-start : nodes ≤ 3072 → Entering 0 (replicate 2048 65535)
  unfolding last_of
  entering-start h =
      record {
        room = h;
        within = omega arith;
        so = record { long = length-replicate {A = ℕ} 2048 65535; so = λ q l. get_or-replicate 2048 q 65535 0 l };
      }

module _ {ks xs : List ℕ} {nodes k : ℕ} {places : List ℕ} (u : Entering ks xs nodes k places) where
  next-entered : EnteredTo ks xs (k + 1) (entered (get_or ks k 0) (get_or xs k 0) k places)
  next-entered = go (works (kind_at (get_or ks k 0))) refl
    where
      at : (q : ℕ) → q < 2048 → works (kind_at (get_or ks k 0)) ≡ true → (b : Bool) → eqb q (get_or xs k 0) ≡ b
          → get_or (set places (get_or xs k 0) k) q 0 ≡ last_of (works_at ks xs q) (k + 1)
      at q h e true z =
          let s : q ≡ get_or xs k 0 = eqb-true q (get_or xs k 0) z in
          rw (← s) (get_or-set_same places q k 0 (omega (arith, u.so.long))) ∙ sym (last-here (works_at ks xs q) k (rw (e, z)))
      at q h e false z = get_or-set_other places (get_or xs k 0) q k 0 (eqb-false q (get_or xs k 0) z) ∙ u.so.so q h ∙ sym (last-past (works_at ks xs q) k (rw (e, z)))

      go : (b : Bool) → works (kind_at (get_or ks k 0)) ≡ b → EnteredTo ks xs (k + 1) (entered (get_or ks k 0) (get_or xs k 0) k places)
      go true e =
          rw e
          (record {
            long = length-set places (get_or xs k 0) k ∙ u.so.long;
            so = λ q h. at q h e (eqb q (get_or xs k 0)) refl;
          })
      go false e = rw e (record { long = u.so.long; so = λ q h. u.so.so q h ∙ sym (last-past (works_at ks xs q) k (rw e)) })

  pub entering_more : {places' : List ℕ} → k < nodes → places' ≡ entered (get_or ks k 0) (get_or xs k 0) k places → Entering ks xs nodes (k + 1) places'
  entering_more h e = record { room = u.room; within = omega arith; so = rw e next-entered }

  pub entering_end : nodes ≤ k → EnteredTo ks xs nodes places
  entering_end h = let end : nodes ≡ k = omega (arith, u.within) in rw end u.so

-- ---- the arrays of a formula
good_points : (by : List ℕ → Rec → ℕ) (xs : List ℕ) (rs : List Rec) (n : ℕ) → ((i : ℕ) → i < length rs → get_or xs (n + i) 0 ≡ by xs (get_or rs i no_rec)) → Good by xs n rs
good_points by xs [] n h = tt
good_points by xs (r ∷ rs) n h = (
  ap (λ k. get_or xs k 0) (sym (add-zero n)) ∙ h 0 (omega arith),
  good_points by xs rs (suc n) (λ i l. ap (λ k. get_or xs k 0) (omega arith) ∙ h (suc i) (omega arith)),
)

-- one field of the records, from the array that holds it
field : (part : Rec → ℕ) → part no_rec ≡ 0 → (rs : List Rec) (xs : List ℕ) (n i : ℕ) → take n xs ≡ map part rs → i < n → get_or xs i 0 ≡ part (get_or rs i no_rec)
field part z rs xs n i e h = sym (get_or-take n xs i 0 h) ∙ ap (λ l. get_or l i 0) e ∙ ap (get_or (map part rs) i) (sym z) ∙ get_or-map part rs i no_rec

first-over : (r : Rec) → is_leaf r.kind ≡ false → over r.first r ≡ true
first-over r n = go r.kind n
  where
    same : eqb r.first r.first ≡ true
    same = eq-eqb r.first r.first refl

    go : (k : Kind) → is_leaf k ≡ false → listed r.first (below k r.first r.second) ≡ true
    go leaf_kind e = cc
    go (E o) e = rw same
    go (R side o) e = rw same
    go S e = rw same
    go C e = rw same

module _ (ks fs ss : List ℕ) (leaves nodes : ℕ) (f : Formula) (h : Holds ks fs ss leaves nodes f) where
  held-falls : Falls fs leaves nodes
  held-falls =
      let s = held_shaped ks fs ss leaves nodes f h in
      record { within = s.within; room = s.room; below = λ i a b. s.below i (get_or fs i 0) b (first-over (rec_at ks fs ss i) (s.inner i a b)) }

  kind_is : (i : ℕ) → i < nodes → kind_at (get_or ks i 0) ≡ (get_or (dwarf f) i no_rec).kind
  kind_is i l = ap kind_at (field (λ (r : Rec). number r.kind) refl (dwarf f) ks nodes i h.kinds_are l) ∙ kind_at-number (get_or (dwarf f) i no_rec).kind

  first_is : (i : ℕ) → i < nodes → get_or fs i 0 ≡ (get_or (dwarf f) i no_rec).first
  first_is i l = field (λ (r : Rec). r.first) refl (dwarf f) fs nodes i h.firsts_are l

  made_at : (i : ℕ) → get_or (dwarf f) (leaves_of f + i) no_rec ≡ get_or (all_made (enough f) (planted f 0) (leaves_of f)) i no_rec
  made_at i =
      ap (λ rs. get_or rs (leaves_of f + i) no_rec) (dwarf-all f)
      ∙ ap (λ k. get_or (leaf_recs f ++ all_made (enough f) (planted f 0) (leaves_of f)) (k + i) no_rec) (length-leaf_recs f)
      ∙ get_or-append-add (leaf_recs f) (all_made (enough f) (planted f 0) (leaves_of f)) i no_rec

  made-nodes : (i : ℕ) → i < length (all_made (enough f) (planted f 0) (leaves_of f)) → leaves_of f + i < nodes
  made-nodes i l =
      omega (arith, h.nodes_are, ap length (dwarf-all f), length-append (leaf_recs f) (all_made (enough f) (planted f 0) (leaves_of f)), length-leaf_recs f)

  module _ (ups known xs : List ℕ) (sc : Scanned f ups known) (st : StandTo ks fs ups known leaves nodes xs) where
    placed : Placed ups xs f
    placed =
        record {
          over = sc.over;
          at_leaves = leaves-agree known xs f 0 0 (λ i g k. st.kept i (omega (arith, h.leaves_are))) sc.at_leaves;
          at_made = good_points (spot ups) xs (all_made (enough f) (planted f 0) (leaves_of f)) (leaves_of f) stands;
        }
      where
        stands : (i : ℕ) → i < length (all_made (enough f) (planted f 0) (leaves_of f))
            → get_or xs (leaves_of f + i) 0 ≡ spot ups xs (get_or (all_made (enough f) (planted f 0) (leaves_of f)) i no_rec)
        stands i l =
            let n = made-nodes i l in
            st.right (leaves_of f + i) (omega (arith, h.leaves_are)) n
            ∙ rw (kind_is (leaves_of f + i) n, first_is (leaves_of f + i) n) (ap (spot ups xs) (made_at i))

    -- what passes the test is E or R and stands at q
    works_is : (q i : ℕ) → i < nodes → works_at ks xs q i ≡ operates (get_or (dwarf f) i no_rec) && eqb q (get_or xs i 0)
    works_is q i l = rw (kind_is i l)

    right_places : (places : List ℕ) → EnteredTo ks xs nodes places → Places f places
    right_places places en = record { so = λ q l. en.so q l ∙ go q (leb first_operation (get_or (postfix f) q 0)) refl }
      where
        split : (a b : Bool) → (a && b) ≡ true → (a ≡ true) × (b ≡ true)
        split true b e = (refl, e)
        split false b e = (e, cc)

        ops : (q : ℕ) → operations q 0 f ≡ count (leb first_operation (get_or (postfix f) q 0))
        ops q = ap (λ k. operations k 0 f) (sym (zero-add q)) ∙ operation-code f h.named 0 q

        shown : (q j : ℕ) → j < nodes → works_at ks xs q j ≡ true → (operates (get_or (dwarf f) j no_rec) ≡ true) × (get_or xs (0 + j) 0 ≡ q)
        shown q j l e =
            let s = split (operates (get_or (dwarf f) j no_rec)) (eqb q (get_or xs j 0)) (sym (works_is q j l) ∙ e) in
            (s.0, ap (λ k. get_or xs k 0) (zero-add j) ∙ sym (eqb-true q (get_or xs j 0) s.1))

        go : (q : ℕ) (b : Bool) → leb first_operation (get_or (postfix f) q 0) ≡ b → last_of (works_at ks xs q) nodes ≡ node_at f q
        go q true e =
            let n = node-placed ups xs f q placed (ops q ∙ ap count e) in
            let i = node_at f q in
            let l : i < nodes = omega (arith, n.inside, h.nodes_are) in
            let at : eqb q (get_or xs i 0) ≡ true = eq-eqb q (get_or xs i 0) (sym n.stands ∙ ap (λ k. get_or xs k 0) (zero-add i)) in
            last_one (works_at ks xs q) nodes i l (works_is q i l ∙ rw (n.works, at))
            (λ j a p. let s = shown q j a p in n.alone j (omega (arith, h.nodes_are)) s.0 s.1)
        go q false e =
            let none = dwarf-standing ups xs q f placed ∙ ops q ∙ ap count e in
            last_none (works_at ks xs q) nodes
            (λ j a p. let s = shown q j a p in none-stand ups xs q (dwarf f) 0 j none (omega (arith, h.nodes_are)) s.0 s.1)
            ∙ sym (node-none f q (ops q ∙ ap count e))

-- what the passes leave, one after the other
module _ {codes ks fs ss : List ℕ} {leaves nodes : ℕ} where
  module _ (b : Buildable codes ks fs ss leaves nodes) where
    pub buildable_falls : Falls fs leaves nodes
    buildable_falls = held-falls ks fs ss leaves nodes b.formula b.built.holds

    pub buildable_room : nodes ≤ 3072
    buildable_room = buildable_falls.room

    pub scanned_long : {ups known : List ℕ} → ScanDone codes ups known → length known ≡ 3072
    scanned_long sc = (sc.so b.formula b.built.holds.named b.built.codes_are).long

  pub places_filled : {ups known xs places : List ℕ} → ScanDone codes ups known → StandTo ks fs ups known leaves nodes xs → EnteredTo ks xs nodes places
      → PlacesFilled codes ks fs ss leaves nodes places
  places_filled {ups} {known} {xs} {places} sc st en =
      record { so = λ f b. right_places ks fs ss leaves nodes f b.holds ups known xs (sc.so f b.holds.named b.codes_are) st places en }
