-- One edit on arrays: one kind changes, so they hold the dwarf tree of the edited formula, and the parents stay.
use Prim.Native.Nat.{ℕ, zero, suc, ◌+◌, ◌-◌, ◌<◌, ◌≤◌}
use native.Mathlib.Nat.{zero-add, add-zero, suc-add}
use native.Mathlib.Omega.{arith}
use mathlib.Core.Path.{◌≡◌, refl, sym, ap, ◌∙◌}
use mathlib.Core.Bool.{Bool, true, false, ◌&&◌}
use mathlib.Core.List.{List, [], ◌∷◌, map}
use lib.Dec.{eqb, ltb}
use borrow.Author.Tests.{ltb-true, ltb-false}
use lib.ListN.{length, get_or, set, take, drop, length-set}
use lib.Seq.{take-set-lt, get_or-take, get_or-set_same, get_or-set_other, map-set_same}
use Rattle.formula.specs.Formula.{op_at, Formula}
use Rattle.formula.specs.States.{outside}
use Rattle.formula.proofs.Codes.{index-op_at}
use Rattle.contraction.specs.Records.{number, Rec, is_leaf, over, listed}
use Rattle.contraction.specs.Rounds.{dwarf}
use Rattle.contraction.specs.Entries.{kind_at, rec_at, recs}
use Rattle.contraction.proofs.EntryLaws.{kind_at-leaf, kind_at-E, kind_at-left, kind_at-right, kind_at-S, kind_at-C, recs_more}
use Rattle.edits.specs.Edits.{only, edited}
use Rattle.edits.specs.Changes.{no_rec, rekind, with_op}
use Rattle.edits.proofs.Edits.{edited-dwarf, edited-nodes, node-inside, children-reop}
use Rattle.edits.proofs.Codes.{over-remade}
use Rattle.edits.proofs.Spots.{leaves-remade}
use Rattle.labels.specs.Labels.{label, is_of}
use Rattle.labels.specs.Arrays.{Holds}
use Rattle.labels.specs.Linked.{seek, Shaped, Parents, Chains}
use Rattle.labels.proofs.Rules.{label_local}
use Rattle.labels.proofs.Held.{held_records, held_shaped}
use Rattle.labels.proofs.Fills.{seek-here, seek-past, seek-none}
use Rattle.toggle_passes.specs.Reworking.{steps, reworked, rework}
use Rattle.toggle_passes.specs.Upwards.{Alone, Climbs}
use Rattle.toggle_passes.proofs.Upwards.{plus}
use Rattle.edit_labels.specs.Editing.{edit}
use Rattle.edit_labels.specs.Edited.{Rekinded, NodeOf, Editable, EditDone}
use Rattle.edit_labels.proofs.EditedLaws.{edit-on, edit_stop}

-- ---- the kind
module _ {kind o : ℕ} where
  pub kind_leaf : kind ≡ 0 → Rekinded kind o 0
  kind_leaf e = record { so = rw (kind_at-leaf kind e) }

  pub kind_S : kind ≡ 13 → Rekinded kind o 13
  kind_S e = record { so = rw (kind_at-S kind e) }

  pub kind_C : 13 ≤ kind → (kind ≡ 13 → ⊥) → Rekinded kind o 14
  kind_C a b = record { so = rw (kind_at-C kind a b) }

  module _ (few : o < 4) where
    pub kind_E : (kind ≡ 0 → ⊥) → kind < 5 → Rekinded kind o (1 + o)
    kind_E a b = record { so = rw (kind_at-E kind a b, index-op_at o few) }

    pub kind_left : 5 ≤ kind → kind < 9 → Rekinded kind o (5 + o)
    kind_left a b = record { so = rw (kind_at-left kind a b, index-op_at o few) }

    pub kind_right : 9 ≤ kind → kind < 13 → Rekinded kind o (9 + o)
    kind_right a b = record { so = rw (kind_at-right kind a b, index-op_at o few) }

-- ---- lists
map-set : (part : Rec → ℕ) (rs : List Rec) (i : ℕ) (q : Rec) → map part (set rs i q) ≡ set (map part rs) i (part q)
map-set part [] i q = refl
map-set part (r ∷ rs) zero q = refl
map-set part (r ∷ rs) (suc i) q = ap (λ l. part r ∷ l) (map-set part rs i q)

seek_set : (p : Rec → Bool) (rs : List Rec) (n i : ℕ) (q : Rec) → p q ≡ p (get_or rs i no_rec) → seek p n (set rs i q) ≡ seek p n rs
seek_set p [] n i q e = refl
seek_set p (r ∷ rs) n zero q e = go (p r) refl
  where
    go : (b : Bool) → p r ≡ b → seek p n (q ∷ rs) ≡ seek p n (r ∷ rs)
    go true z = seek-here p n q rs (e ∙ z) ∙ sym (seek-here p n r rs z)
    go false z = seek-past p n q rs (e ∙ z) ∙ sym (seek-past p n r rs z)
seek_set p (r ∷ rs) n (suc i) q e = go (p r) refl (seek_set p rs (suc n) i q e)
  where
    go : (b : Bool) → p r ≡ b → seek p (suc n) (set rs i q) ≡ seek p (suc n) rs → seek p n (r ∷ set rs i q) ≡ seek p n (r ∷ rs)
    go true z ih = seek-here p n r (set rs i q) z ∙ sym (seek-here p n r rs z)
    go false z ih = seek-past p n r (set rs i q) z ∙ ih ∙ sym (seek-past p n r rs z)

module _ (ks fs ss : List ℕ) where
  recs_get_d : (n i j : ℕ) → j < n → get_or (recs ks fs ss i n) j no_rec ≡ rec_at ks fs ss (i + j)
  recs_get_d zero i j h = absurd (omega arith)
  recs_get_d (suc n) i zero h = rw (recs_more ks fs ss i n) (ap (rec_at ks fs ss) (sym (add-zero i)))
  recs_get_d (suc n) i (suc j) h = rw (recs_more ks fs ss i n) (recs_get_d n (suc i) j (omega arith) ∙ ap (rec_at ks fs ss) (omega arith))

  recs-drop : (k i m : ℕ) → drop k (recs ks fs ss i (k + m)) ≡ recs ks fs ss (i + k) m
  recs-drop zero i m = rw (zero-add m, add-zero i)
  recs-drop (suc k) i m =
      rw (suc-add k m, recs_more ks fs ss i (k + m)) (recs-drop k (suc i) m ∙ ap (λ n. recs ks fs ss n m) (omega arith))

-- ---- the arrays
module _ {ks fs ss : List ℕ} {leaves nodes e : ℕ} {o v : ℕ} (new : Rekinded (get_or ks e 0) o v) where
  module _ {f : Formula} {p : ℕ} (h : NodeOf ks fs ss leaves nodes e f p) where
    e_inside : e < nodes
    e_inside = omega (arith, h.node_is, node-inside f p h.operation, h.holds.nodes_are)

    old_rec : get_or (dwarf f) e no_rec ≡ rec_at ks fs ss e
    old_rec = ap (λ rs. get_or rs e no_rec) (sym (held_records ks fs ss leaves nodes f h.holds)) ∙ recs_get_d ks fs ss nodes 0 e e_inside ∙ ap (rec_at ks fs ss) (zero-add e)

    dwarf-set : dwarf (edited p (op_at o) f) ≡ set (dwarf f) e (with_op (op_at o) (get_or (dwarf f) e no_rec))
    dwarf-set = rw h.node_is (edited-dwarf f p (op_at o) h.operation)

    holds_now : Holds (set ks e v) fs ss leaves nodes (edited p (op_at o) f)
    holds_now =
        let q = with_op (op_at o) (get_or (dwarf f) e no_rec) in
        record {
          leaves_are = h.holds.leaves_are ∙ sym (leaves-remade [] [] (only p (op_at o)) f 0);
          nodes_are = h.holds.nodes_are ∙ sym (edited-nodes f p (op_at o));
          few = omega (arith, h.holds.few, leaves-remade [] [] (only p (op_at o)) f 0);
          named = over-remade (only p (op_at o)) f 256 0 h.holds.named;
          kinds_are =
              take-set-lt nodes ks e v e_inside ∙ ap (λ l. set l e v) h.holds.kinds_are
              ∙ ap (set (map (λ (r : Rec). number r.kind) (dwarf f)) e) (new.so ∙ ap (λ (r : Rec). number (rekind (λ x. op_at o) r.kind)) (sym old_rec))
              ∙ sym (map-set (λ (r : Rec). number r.kind) (dwarf f) e q) ∙ ap (map (λ (r : Rec). number r.kind)) (sym dwarf-set);
          firsts_are = h.holds.firsts_are ∙ sym (map-set_same (λ (r : Rec). r.first) (dwarf f) e q no_rec refl) ∙ ap (map (λ (r : Rec). r.first)) (sym dwarf-set);
          seconds_are = h.holds.seconds_are ∙ sym (map-set_same (λ (r : Rec). r.second) (dwarf f) e q no_rec refl) ∙ ap (map (λ (r : Rec). r.second)) (sym dwarf-set);
        }

    records : recs (set ks e v) fs ss 0 nodes ≡ dwarf (edited p (op_at o) f)
    records = held_records (set ks e v) fs ss leaves nodes (edited p (op_at o) f) holds_now

    parents_now : {ps : List ℕ} → Parents ks fs ss nodes ps → Parents (set ks e v) fs ss nodes ps
    parents_now u =
        record {
          up = λ c l.
              u.up c l ∙ ap (seek (over c) 0) (held_records ks fs ss leaves nodes f h.holds)
              ∙ sym (seek_set (over c) (dwarf f) 0 e (with_op (op_at o) (get_or (dwarf f) e no_rec)) (ap (listed c) (children-reop (λ x. op_at o) (get_or (dwarf f) e no_rec))))
              ∙ ap (seek (over c) 0) (sym dwarf-set) ∙ ap (seek (over c) 0) (sym records);
        }

    shaped_now : Shaped (set ks e v) fs ss leaves nodes
    shaped_now = held_shaped (set ks e v) fs ss leaves nodes (edited p (op_at o) f) holds_now

    -- the records above its node
    left : recs (set ks e v) fs ss (suc e) (nodes - suc e) ≡ drop (suc e) (dwarf (edited p (op_at o) f))
    left =
        let z : nodes ≡ suc e + (nodes - suc e) = omega (arith, e_inside) in
        sym (ap (drop (suc e)) (sym records ∙ ap (recs (set ks e v) fs ss 0) z) ∙ recs-drop (set ks e v) fs ss (suc e) 0 (nodes - suc e)
        ∙ ap (λ n. recs (set ks e v) fs ss n (nodes - suc e)) (zero-add (suc e)))

    module _ (old : List ℕ) {w : ℕ} (worked : w ≡ label outside old (rec_at (set ks e v) fs ss e)) where
      new_rec : get_or (dwarf (edited p (op_at o) f)) e no_rec ≡ rec_at (set ks e v) fs ss e
      new_rec = ap (λ rs. get_or rs e no_rec) (sym records) ∙ recs_get_d (set ks e v) fs ss nodes 0 e e_inside ∙ ap (rec_at (set ks e v) fs ss) (zero-add e)

      w_is : w ≡ reworked (take nodes old) (get_or (dwarf (edited p (op_at o) f)) e no_rec)
      w_is =
          worked
          ∙ label_local outside (rec_at (set ks e v) fs ss e) old (take nodes old) (λ c a. sym (get_or-take nodes old c 0 (omega (arith, e_inside, shaped_now.below e c e_inside a))))
          ∙ ap (reworked (take nodes old)) (sym new_rec)

      inside : e < length (dwarf (edited p (op_at o) f))
      inside = omega (arith, e_inside, holds_now.nodes_are)

      stop_is : w ≡ get_or old e 0 → steps (take nodes old) 1 ≡ edit (dwarf (edited p (op_at o) f)) e (take nodes old)
      stop_is z = sym (edit_stop (dwarf (edited p (op_at o) f)) e (take nodes old) inside (sym w_is ∙ z ∙ sym (get_or-take nodes old e 0 e_inside)))

      on_is : (ls : List ℕ) (r : ℕ) → steps (take nodes ls) r ≡ rework (take nodes old) (recs (set ks e v) fs ss (suc e) (nodes - suc e)) (suc e) (take nodes (set old e w))
          → steps (take nodes ls) (r + 1) ≡ edit (dwarf (edited p (op_at o) f)) e (take nodes old)
      on_is ls r walked =
          let rs = dwarf (edited p (op_at o) f) in
          let L = take nodes old in
          ap (steps (take nodes ls)) (omega arith)
          ∙ ap (plus 1)
          (walked ∙ ap (λ z. rework L z (suc e) (take nodes (set old e w))) left ∙ ap (rework L (drop (suc e) rs) (suc e)) (take-set-lt nodes old e w e_inside ∙ ap (set L e) w_is))
          ∙ sym (edit-on rs e L inside)

-- what the walk up is told: the label of the edit's node alone has changed
alone : (nodes e w : ℕ) (old : List ℕ) → e < nodes → nodes ≤ length old → (w ≡ get_or old e 0 → ⊥) → Alone nodes (take nodes old) (set old e w) e
alone nodes e w old h l n =
    record {
      differs = λ z. n (sym (get_or-set_same old e w 0 (omega arith)) ∙ z ∙ get_or-take nodes old e 0 h);
      elsewhere = λ i a q. get_or-set_other old e i w 0 q ∙ sym (get_or-take nodes old i 0 a);
    }

-- ---- the function, exit by exit
module _ {rules ks fs ss : List ℕ} {leaves nodes : ℕ} {ps ls : List ℕ} {e : ℕ} (h : Editable rules ks fs ss leaves nodes ps ls e) where
  room : nodes ≤ 3072
  room = (held_shaped ks fs ss leaves nodes h.formula h.at.holds).room

  node-below : e < nodes
  node-below = omega (arith, h.at.node_is, node-inside h.formula h.position h.at.operation, h.at.holds.nodes_are)

  pub node_room : e < 3072
  node_room = omega (arith, room, node-below)

  module _ {o v : ℕ} (new : Rekinded (get_or ks e 0) o v) where
    pub climbs : (w : ℕ) → Climbs rules (set ks e v) fs ss leaves nodes ps (set ls e w) e
    climbs w =
        record {
          ruled = h.ruled;
          linked = record { shaped = shaped_now new h.at; ups = parents_now new h.at h.ups };
          long = length-set ls e w ∙ h.long;
          inside = node-below;
        }

    module _ {w : ℕ} (worked : w ≡ label outside ls (rec_at (set ks e v) fs ss e)) where
      pub done_stop : w ≡ get_or ls e 0 → EditDone ks fs ss leaves nodes ps ls e o (set ks e v) ls 1
      done_stop z =
          record {
            so = λ f p at. record { holds = holds_now new at; ups = parents_now new at h.ups; long = h.long; edit_is = stop_is new at ls worked z };
          }

      module _ (differs : w ≡ get_or ls e 0 → ⊥) (ls' : List ℕ) {r : ℕ}
          (walked : (old : List ℕ) → Alone nodes old (set ls e w) e → steps (take nodes ls') r
          ≡ rework old (recs (set ks e v) fs ss (suc e) (nodes - suc e)) (suc e) (take nodes (set ls e w))) where
        here : steps (take nodes ls') r ≡ rework (take nodes ls) (recs (set ks e v) fs ss (suc e) (nodes - suc e)) (suc e) (take nodes (set ls e w))
        here = walked (take nodes ls) (alone nodes e w ls node-below (omega (arith, h.long, room)) differs)

        pub done_on : length ls' ≡ 3072 → EditDone ks fs ss leaves nodes ps ls e o (set ks e v) ls' (r + 1)
        done_on long =
            record {
              so = λ f p at. record { holds = holds_now new at; ups = parents_now new at h.ups; long = long; edit_is = on_is new at ls worked ls' r here };
            }

-- ---- the leaves of each shape stay chained, since the same nodes are leaves
module _ (ks ks' fs ss : List ℕ) where
  seek-same : (p : Rec → Bool) (n j : ℕ) → ((i : ℕ) → j ≤ i → i < j + n → p (rec_at ks' fs ss i) ≡ p (rec_at ks fs ss i))
      → seek p j (recs ks' fs ss j n) ≡ seek p j (recs ks fs ss j n)
  seek-same p zero j h = seek-none ks' fs ss p j j 0 refl ∙ sym (seek-none ks fs ss p j j 0 refl)
  seek-same p (suc n) j h = rw (recs_more ks' fs ss j n, recs_more ks fs ss j n) (go (p (rec_at ks fs ss j)) refl (seek-same p n (suc j) (λ i a b. h i (omega arith) (omega arith))))
    where
      go : (b : Bool) → p (rec_at ks fs ss j) ≡ b → seek p (suc j) (recs ks' fs ss (suc j) n) ≡ seek p (suc j) (recs ks fs ss (suc j) n)
          → seek p j (rec_at ks' fs ss j ∷ recs ks' fs ss (suc j) n) ≡ seek p j (rec_at ks fs ss j ∷ recs ks fs ss (suc j) n)
      go true e ih =
          seek-here p j (rec_at ks' fs ss j) (recs ks' fs ss (suc j) n) (h j (omega arith) (omega arith) ∙ e) ∙ sym (seek-here p j (rec_at ks fs ss j) (recs ks fs ss (suc j) n) e)
      go false e ih =
          seek-past p j (rec_at ks' fs ss j) (recs ks' fs ss (suc j) n) (h j (omega arith) (omega arith) ∙ e) ∙ ih
          ∙ sym (seek-past p j (rec_at ks fs ss j) (recs ks fs ss (suc j) n) e)

  pub chains_kept : (leaves nodes : ℕ) (links : List ℕ) → Shaped ks fs ss leaves nodes → Shaped ks' fs ss leaves nodes
      → Chains ks fs ss leaves nodes links → Chains ks' fs ss leaves nodes links
  chains_kept leaves nodes links a b u =
      record {
        first = λ s l. u.first s l ∙ sym (seek-same (is_of s) nodes 0 (λ i g h. same s i (omega arith)));
        next = λ i l. u.next i l ∙ sym (seek-same (is_of (get_or fs i 0)) (nodes - suc i) (suc i) (λ j g h. same (get_or fs i 0) j (omega (arith, a.within))));
      }
    where
      leafy : (i : ℕ) → i < nodes → (x : Bool) → ltb i leaves ≡ x → is_leaf (kind_at (get_or ks' i 0)) ≡ is_leaf (kind_at (get_or ks i 0))
      leafy i h true e = let l = ltb-true i leaves e in b.leaf i l ∙ sym (a.leaf i l)
      leafy i h false e = let l = ltb-false i leaves e in b.inner i l h ∙ sym (a.inner i l h)

      same : (s i : ℕ) → i < nodes → is_of s (rec_at ks' fs ss i) ≡ is_of s (rec_at ks fs ss i)
      same s i h = ap (λ z. z && eqb (get_or fs i 0) s) (leafy i h (ltb i leaves) refl)
