-- An edit leaves the labels that a build of the edited sheet would have, with the same shapes inside.
use Prim.Native.Nat.{ℕ, zero, suc, ◌+◌, ◌<◌, ◌≤◌}
use native.Mathlib.Nat.{zero-add, add-zero}
use native.Mathlib.Omega.{arith}
use mathlib.Core.Path.{◌≡◌, refl, sym, ap, ◌∙◌}
use mathlib.Core.Bool.{Bool, true, false, ◌||◌, true≢false, false≢true}
use mathlib.Core.List.{List, [], ◌∷◌}
use lib.Dec.{eqb}
use borrow.Author.Tests.{eqb-true, eqb-false, eq-eqb, ne_eqb}
use lib.ListN.{length, get_or, set, drop, length-set}
use lib.Seq.{get_or-set_same, get_or-set_other, set-get_or}
use Rattle.formula.specs.Formula.{Op, Formula}
use Rattle.formula.specs.States.{State}
use Rattle.contraction.specs.Records.{Kind, leaf as leaf_kind, E, R, S, C, Rec, is_leaf, children, listed, over}
use Rattle.contraction.specs.Rounds.{dwarf}
use Rattle.contraction.specs.Terms.{Each, ChildrenBelow}
use Rattle.edits.specs.Edits.{edited, node_at}
use Rattle.edits.specs.Changes.{no_rec, operations, with_op}
use Rattle.edits.specs.Spots.{works, operates}
use Rattle.contraction.proofs.Worked.{Good}
use Rattle.contraction.proofs.Order.{children_smaller}
use Rattle.edits.proofs.Again.{operates-reop}
use Rattle.edits.proofs.Edits.{edited-dwarf, edited-nodes, node-operates}
use Rattle.labels.specs.Labels.{label, labels}
use Rattle.labels.proofs.Rules.{label_local, label_inner, listed_here}
use Rattle.labels.proofs.Links.{cases}
use Rattle.labels.proofs.Afresh.{below_steady, labels_good, labels_unique, length-labels}
use Rattle.toggle_passes.specs.Reworking.{Steps, steps, changed, reworked, rework}
use Rattle.toggle_passes.proofs.Reworking.{rework_skip, rework-here, leaf-none}
use Rattle.toggle_passes.proofs.Upwards.{plus}
use Rattle.edit_labels.specs.Editing.{sweep, edit, Above, own, up}

-- the two ways of a sweep at a record
module _ (e : ℕ) (old : List ℕ) (r : Rec) (rs : List Rec) (j : ℕ) (ls : List ℕ) where
  sweep_skip : (eqb j e || changed old ls (children r)) ≡ false → sweep e old (r ∷ rs) j ls ≡ sweep e old rs (suc j) ls
  sweep_skip q = rw (q, sweep)

  sweep-here : (eqb j e || changed old ls (children r)) ≡ true
      → sweep e old (r ∷ rs) j ls
      ≡ steps (sweep e old rs (suc j) (set ls j (reworked ls r))).labels (suc (sweep e old rs (suc j) (set ls j (reworked ls r))).count)
  sweep-here q = rw (q, sweep)

-- where no child's label has changed, the children have the old labels
unchanged : (old ls cs : List ℕ) → changed old ls cs ≡ false → (c : ℕ) → listed c cs ≡ true → get_or ls c 0 ≡ get_or old c 0
unchanged old ls [] h c a = absurd (false≢true a)
unchanged old ls (d ∷ ds) h c a = go (eqb c d) refl (eqb (get_or ls d 0) (get_or old d 0)) refl (unchanged old ls ds)
  where
    go : (b : Bool) → eqb c d ≡ b → (x : Bool) → eqb (get_or ls d 0) (get_or old d 0) ≡ x
        → (changed old ls ds ≡ false → (k : ℕ) → listed k ds ≡ true → get_or ls k 0 ≡ get_or old k 0) → get_or ls c 0 ≡ get_or old c 0
    go b p false q ih = absurd (true≢false (rw q at h))
    go true p true q ih = rw (eqb-true c d p) (eqb-true (get_or ls d 0) (get_or old d 0) q)
    go false p true q ih = ih (rw q at h) c (rw p at a)

-- a record with a changed child is no leaf
changed_inner : (old ls : List ℕ) (r : Rec) → changed old ls (children r) ≡ true → is_leaf r.kind ≡ false
changed_inner old ls r h = cases (is_leaf r.kind) (λ q. absurd (false≢true (sym (ap (changed old ls) (leaf-none r q)) ∙ h))) (λ q. q)

module _ (state : State) (e : ℕ) (old : List ℕ) where
  -- the old labels are right at every node but e, which is no leaf
  abbrev Rest : ℕ → List Rec → Type 0
  Rest n [] = Unit {0}
  Rest n (r ∷ rs) = (eqb n e ≡ false → get_or old n 0 ≡ label state old r) × (eqb n e ≡ true → is_leaf r.kind ≡ false) × Rest (suc n) rs

  record Sweep (rs : List Rec) (j : ℕ) (ls ms : List ℕ) : Type 0 where
    right : Good (label state) ms j rs
    before : (i : ℕ) → i < j → get_or ms i 0 ≡ get_or ls i 0
    long : length ms ≡ length ls

  abbrev SweepGood : List Rec → ℕ → Type 0
  SweepGood rs j = (ls : List ℕ) → j + length rs ≤ length ls → ((i : ℕ) → j ≤ i → get_or ls i 0 ≡ get_or old i 0) → Rest j rs → Sweep rs j ls (sweep e old rs j ls).labels

  module _ (r : Rec) (rs : List Rec) (j : ℕ) (below : ChildrenBelow j r) (ih : SweepGood rs (suc j)) where
    passed : (ls : List ℕ) → j + length (r ∷ rs) ≤ length ls → ((i : ℕ) → j ≤ i → get_or ls i 0 ≡ get_or old i 0) → Rest j (r ∷ rs)
        → eqb j e ≡ false → changed old ls (children r) ≡ false → Sweep (r ∷ rs) j ls (sweep e old rs (suc j) ls).labels
    passed ls b s g p q =
        let w = ih ls (omega arith) (λ i h. s i (omega arith)) g.2 in
        record {
          right = (
            w.before j (omega arith) ∙ s j (omega arith) ∙ g.0 p ∙ label_local state r old ls (λ c o. sym (unchanged old ls (children r) q c o))
                ∙ below_steady state j r below ls (sweep e old rs (suc j) ls).labels (λ i h. sym (w.before i (omega arith))),
            w.right,
          );
          before = λ i h. w.before i (omega arith);
          long = w.long;
        }

    remade : (ls : List ℕ) → j + length (r ∷ rs) ≤ length ls → ((i : ℕ) → j ≤ i → get_or ls i 0 ≡ get_or old i 0) → Rest j (r ∷ rs)
        → is_leaf r.kind ≡ false → Sweep (r ∷ rs) j ls (sweep e old rs (suc j) (set ls j (reworked ls r))).labels
    remade ls b s g k =
        let v = reworked ls r in
        let w = ih (set ls j v) (omega (arith, length-set ls j v)) (λ i h. get_or-set_other ls j i v 0 (λ z. omega arith) ∙ s i (omega arith)) g.2 in
        let kept : (i : ℕ) → i < j → get_or (sweep e old rs (suc j) (set ls j v)).labels i 0 ≡ get_or ls i 0 =
        λ i h. w.before i (omega arith) ∙ get_or-set_other ls j i v 0 (λ z. omega arith) in
        record {
          right = (
            w.before j (omega arith) ∙ get_or-set_same ls j v 0 (omega arith) ∙ sym (label_inner state ls r k)
                ∙ below_steady state j r below ls (sweep e old rs (suc j) (set ls j v)).labels (λ i h. sym (kept i h)),
            w.right,
          );
          before = kept;
          long = w.long ∙ length-set ls j v;
        }

    sweep_step : SweepGood (r ∷ rs) j
    sweep_step ls b s g = go (eqb j e) refl (changed old ls (children r)) refl
      where
        go : (x : Bool) → eqb j e ≡ x → (y : Bool) → changed old ls (children r) ≡ y → Sweep (r ∷ rs) j ls (sweep e old (r ∷ rs) j ls).labels
        go true p y q = rw (sweep-here e old r rs j ls (rw p)) (remade ls b s g (g.1 p))
        go false p true q = rw (sweep-here e old r rs j ls (rw (p, q))) (remade ls b s g (changed_inner old ls r q))
        go false p false q = rw (sweep_skip e old r rs j ls (rw (p, q))) (passed ls b s g p q)

  sweep_good : (rs : List Rec) (j : ℕ) → Each ChildrenBelow j rs → SweepGood rs j
  sweep_good [] j below = λ ls b s g. record { right = tt; before = λ i h. refl; long = refl }
  sweep_good (r ∷ rs) j below = sweep_step r rs j below.0 (sweep_good rs (suc j) below.1)

  -- labels right for records are right, but for node e, for the records with another one there
  good_rest : (rs : List Rec) (n i : ℕ) (q : Rec) → e ≡ n + i → is_leaf q.kind ≡ false → Good (label state) old n rs → Rest n (set rs i q)
  good_rest [] n i q h k g = tt
  good_rest (r ∷ rs) n zero q h k g =
      ((λ z. absurd (true≢false (sym (eq-eqb n e (omega arith)) ∙ z))), (λ z. k), later rs (suc n) (omega arith) g.1)
    where
      later : (rs : List Rec) (n : ℕ) → e < n → Good (label state) old n rs → Rest n rs
      later [] n h g = tt
      later (r ∷ rs) n h g = ((λ z. g.0), (λ z. absurd (true≢false (sym z ∙ ne_eqb n e (λ y. omega arith)))), later rs (suc n) (omega arith) g.1)
  good_rest (r ∷ rs) n (suc i) q h k g =
      ((λ z. g.0), (λ z. absurd (true≢false (sym z ∙ ne_eqb n e (λ y. omega arith)))), good_rest rs (suc n) i q (omega arith) k g.1)

works_inner : (k : Kind) → works k ≡ true → is_leaf k ≡ false
works_inner leaf_kind e = absurd (false≢true e)
works_inner (E o) e = refl
works_inner (R side o) e = refl
works_inner S e = refl
works_inner C e = refl

operates_inner : (r : Rec) → operates r ≡ true → is_leaf r.kind ≡ false
operates_inner r e = works_inner r.kind e

-- Each label is that of a build of the sheet as edited, with the same shapes inside.
pub edit-labels : (f : Formula) (p : ℕ) (o : Op) (state : State) → operations p 0 f ≡ 1
    → (edit (dwarf (edited p o f)) (node_at f p) (labels state (dwarf f))).labels ≡ labels state (dwarf (edited p o f))
edit-labels f p o state h =
    let f' = edited p o f in
    let e = node_at f p in
    let ls = labels state (dwarf f) in
    let q = with_op o (get_or (dwarf f) e no_rec) in
    let k = operates_inner q (operates-reop (λ x. o) (get_or (dwarf f) e no_rec) ∙ node-operates f p h) in
    let long : length ls ≡ length (dwarf f') = length-labels state (dwarf f) ∙ sym (edited-nodes f p o) in
    let rest : Rest state e ls 0 (dwarf f') = rw (edited-dwarf f p o h) (good_rest state e ls (dwarf f) 0 e q (sym (zero-add e)) k (labels_good f state)) in
    let w = sweep_good state e ls (dwarf f') 0 (children_smaller f') ls (omega arith) (λ i l. refl) rest in
    labels_unique f' state (edit (dwarf f') e ls).labels (w.long ∙ long) w.right

-- ---- An edit reworks its own node, and then what a toggle would

all_same : (ls cs : List ℕ) → changed ls ls cs ≡ false
all_same ls [] = refl
all_same ls (c ∷ cs) = rw (eq-eqb (get_or ls c 0) (get_or ls c 0) refl) (all_same ls cs)

rework-none : (ls : List ℕ) (rs : List Rec) (j : ℕ) → rework ls rs j ls ≡ steps ls 0
rework-none ls [] j = refl
rework-none ls (r ∷ rs) j = rework_skip ls r rs j ls (all_same ls (children r)) ∙ rework-none ls rs (suc j)

-- past its own node the pass is a toggle's
sweep-past : (e : ℕ) (old : List ℕ) (rs : List Rec) (j : ℕ) (ls : List ℕ) → e < j → sweep e old rs j ls ≡ rework old rs j ls
sweep-past e old [] j ls h = refl
sweep-past e old (r ∷ rs) j ls h =
    cases (changed old ls (children r))
    (λ q.
    sweep-here e old r rs j ls (rw (away, q))
    ∙ ap (λ (s : Steps). steps s.labels (suc s.count)) (sweep-past e old rs (suc j) (set ls j (reworked ls r)) (omega arith)) ∙ sym (rework-here old r rs j ls q))
    (λ q. sweep_skip e old r rs j ls (rw (away, q)) ∙ sweep-past e old rs (suc j) ls (omega arith) ∙ sym (rework_skip old r rs j ls q))
  where
    away : eqb j e ≡ false
    away = ne_eqb j e (λ z. omega arith)

-- before it nothing has changed
sweep-from : (e : ℕ) (rs : List Rec) (n i : ℕ) (ls : List ℕ) → e ≡ n + i → i < length rs
    → sweep e ls rs n ls ≡ plus 1 (sweep e ls (drop (suc i) rs) (suc e) (set ls e (reworked ls (get_or rs i no_rec))))
sweep-from e [] n i ls h l = absurd (omega arith)
sweep-from e (r ∷ rs) n zero ls h l =
    let z : n ≡ e = omega arith in
    sweep-here e ls r rs n ls (rw (eq-eqb n e z)) ∙ rw z (ap (steps _) (omega arith))
sweep-from e (r ∷ rs) n (suc i) ls h l =
    sweep_skip e ls r rs n ls (rw (ne_eqb n e (λ z. omega arith), all_same ls (children r))) ∙ sweep-from e rs (suc n) i ls (omega arith) (omega arith)

module _ (rs : List Rec) (e : ℕ) (ls : List ℕ) (inside : e < length rs) where
  pub edit-on : edit rs e ls ≡ plus 1 (rework ls (drop (suc e) rs) (suc e) (set ls e (reworked ls (get_or rs e no_rec))))
  edit-on = sweep-from e rs 0 e ls (sym (zero-add e)) inside ∙ ap (plus 1) (sweep-past e ls (drop (suc e) rs) (suc e) _ (omega arith))

  pub edit_stop : reworked ls (get_or rs e no_rec) ≡ get_or ls e 0 → edit rs e ls ≡ steps ls 1
  edit_stop v = edit-on ∙ rw (v, set-get_or ls e 0, rework-none ls (drop (suc e) rs) (suc e))

-- ---- An edit changes labels only at its node and above it

changed-one : (old ls cs : List ℕ) → changed old ls cs ≡ true → (c : ℕ) × (listed c cs ≡ true) × (get_or ls c 0 ≡ get_or old c 0 → ⊥)
changed-one old ls [] h = absurd (false≢true h)
changed-one old ls (d ∷ ds) h = go (eqb (get_or ls d 0) (get_or old d 0)) refl (changed-one old ls ds)
  where
    later : (a b : Bool) → b ≡ true → (a || b) ≡ true
    later true b e = refl
    later false b e = e

    go : (b : Bool) → eqb (get_or ls d 0) (get_or old d 0) ≡ b → (changed old ls ds ≡ true → (c : ℕ) × (listed c ds ≡ true) × (get_or ls c 0 ≡ get_or old c 0 → ⊥))
        → (c : ℕ) × (listed c (d ∷ ds) ≡ true) × (get_or ls c 0 ≡ get_or old c 0 → ⊥)
    go false q ih = (d, listed_here d ds, eqb-false (get_or ls d 0) (get_or old d 0) q)
    go true q ih = let w = ih (rw q at h) in (w.0, later (eqb w.0 d) (listed w.0 ds) w.1, w.2)

module _ (A : ℕ → Type 0) (e : ℕ) (here : A e) (old : List ℕ) where
  abbrev Rises : ℕ → Rec → Type 0
  Rises n r = (c : ℕ) → A c → over c r ≡ true → A n

  abbrev Moved : List ℕ → Type 0
  Moved ls = (i : ℕ) → (get_or ls i 0 ≡ get_or old i 0 → ⊥) → A i

  sweep_above : (rs : List Rec) (j : ℕ) (ls : List ℕ) → Each Rises j rs → Moved ls → Moved (sweep e old rs j ls).labels
  sweep_above [] j ls u m = m
  sweep_above (r ∷ rs) j ls u m = go (eqb j e) refl (changed old ls (children r)) refl (sweep_above rs (suc j))
    where
      put : A j → Moved (set ls j (reworked ls r))
      put a i n = at (eqb i j) refl
        where
          at : (b : Bool) → eqb i j ≡ b → A i
          at true q = rw (eqb-true i j q) a
          at false q = m i (λ z. n (get_or-set_other ls j i (reworked ls r) 0 (eqb-false i j q) ∙ z))

      go : (x : Bool) → eqb j e ≡ x → (y : Bool) → changed old ls (children r) ≡ y
          → ((ms : List ℕ) → Each Rises (suc j) rs → Moved ms → Moved (sweep e old rs (suc j) ms).labels) → Moved (sweep e old (r ∷ rs) j ls).labels
      go true p y q ih = rw (sweep-here e old r rs j ls (rw p)) (ih (set ls j (reworked ls r)) u.1 (put (rw (eqb-true j e p) here)))
      go false p true q ih =
          let w = changed-one old ls (children r) q in
          rw (sweep-here e old r rs j ls (rw (p, q))) (ih (set ls j (reworked ls r)) u.1 (put (u.0 w.0 (m w.0 w.2) w.1)))
      go false p false q ih = rw (sweep_skip e old r rs j ls (rw (p, q))) (ih ls u.1 m)

rises : (all : List Rec) (e : ℕ) (rs : List Rec) (n : ℕ) → ((k : ℕ) → k < length rs → get_or all (n + k) no_rec ≡ get_or rs k no_rec)
    → Each (λ m r. (c : ℕ) → Above all e c → over c r ≡ true → Above all e m) n rs
rises all e [] n h = tt
rises all e (r ∷ rs) n h = (
  (λ c a o. up c n a (ap (over c) (ap (λ k. get_or all k no_rec) (sym (add-zero n)) ∙ h 0 (omega arith)) ∙ o)),
  rises all e rs (suc n) (λ k l. ap (λ i. get_or all i no_rec) (omega arith) ∙ h (suc k) (omega arith)),
)

pub edit_above : (rs : List Rec) (e : ℕ) (ls : List ℕ) (n : ℕ) → (get_or (edit rs e ls).labels n 0 ≡ get_or ls n 0 → ⊥) → Above rs e n
edit_above rs e ls n h =
    sweep_above (Above rs e) e own ls rs 0 ls (rises rs e rs 0 (λ k l. ap (λ i. get_or rs i no_rec) (zero-add k))) (λ i z. absurd (z refl)) n h

-- So the labels of two builds, of a sheet and of the sheet as edited, with the same shapes inside, differ only at the edit's node and above it.
pub builds_differ_above : (f : Formula) (p : ℕ) (o : Op) (state : State) → operations p 0 f ≡ 1 → (n : ℕ)
    → (get_or (labels state (dwarf (edited p o f))) n 0 ≡ get_or (labels state (dwarf f)) n 0 → ⊥) → Above (dwarf (edited p o f)) (node_at f p) n
builds_differ_above f p o state h n differs =
    edit_above (dwarf (edited p o f)) (node_at f p) (labels state (dwarf f)) n (λ same. differs (ap (λ ls. get_or ls n 0) (sym (edit-labels f p o state h)) ∙ same))
