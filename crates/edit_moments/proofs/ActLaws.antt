-- One edit of a run: it can act where its moment has come, and it has acted; and where it has not, all that wait are of a later moment.
use Prim.Native.Nat.{ℕ, suc, ◌+◌, ◌-◌, ◌<◌, ◌≤◌}
use native.Mathlib.Numerals.{add-one}
use native.Mathlib.Omega.{arith}
use mathlib.Core.Path.{◌≡◌, refl, sym, ap, ◌∙◌}
use mathlib.Core.Bool.{Bool, true, false}
use mathlib.Core.List.{List, ◌∷◌}
use lib.Dec.{ltb}
use borrow.Author.Tests.{ltb-true, ltb-false}
use lib.ListN.{length, get_or, set, take, length-set}
use lib.Seq.{sets}
use Rattle.formula.specs.Formula.{first_operation}
use Rattle.formula.specs.States.{toggled_by}
use Rattle.contraction.specs.Rounds.{dwarf}
use Rattle.labels.specs.Labels.{labels}
use Rattle.toggle_passes.specs.Reworking.{Steps, steps}
use Rattle.edits.specs.Edits.{node_at}
use Rattle.edits.specs.Changes.{operations}
use Rattle.edits.proofs.Again.{node-all}
use Rattle.edit_labels.specs.Editing.{edit}
use Rattle.edit_labels.specs.Edited.{NodeOf, Editable, EditLeft, EditDone}
use Rattle.edit_labels.proofs.EditedLaws.{edit-labels}
use Rattle.edit_moments.specs.Edits.{Edit, after, edited_by, edit_counts}
use Rattle.edit_moments.specs.Listed.{Rises}
use Rattle.edit_moments.specs.Waiting.{Readable, Due, Later, Desk, waiting, Plan, At}
use Rattle.edit_moments.proofs.Lists.{edit_at, waiting-here, waiting_none, kept-operations, position_small, by_now}

-- ---- one edit
module _ {d : Desk} {p : Plan} {i k : ℕ} {ks ls counts : List ℕ} (a : At d p i k ks ls counts) (here : k < length d.moments) where
  abbrev this : Edit
  this = edit_at d.moments d.positions d.codes k

  split : waiting d k ≡ this ∷ waiting d (suc k)
  split = waiting-here d a.listed k here

  operation-here : operations this.position 0 a.now ≡ 1
  operation-here = (rw split at a.operated).0

  place_small : this.position < 2048
  place_small = position_small a.now this.position operation-here a.holds.few

  node_of : {q e : ℕ} → q ≡ get_or d.positions k 0 → e ≡ get_or d.places q 0 → NodeOf ks d.firsts d.seconds d.size.leaves d.size.nodes e a.now this.position
  node_of at is =
      record {
        holds = a.holds;
        operation = operation-here;
        node_is = is ∙ ap (λ n. get_or d.places n 0) at ∙ a.placed.so this.position place_small;
      }

  module _ (due : get_or d.moments k 0 ≤ i) {e o count : ℕ} {ks' ls' : List ℕ} (is_node : e ≡ node_at a.now this.position) (is-op : o ≡ get_or d.codes k 0 - first_operation)
      (x : EditLeft ks' d.firsts d.seconds d.size.leaves d.size.nodes d.links ls ls' count e o a.now this.position) where
    now_is : this.moment ≡ i
    now_is = let w = rw split at a.waits in omega (arith, w.0)

    steps_are : steps (take d.size.nodes ls') count
        ≡ edit (dwarf (after this a.now)) (node_at a.now this.position) (labels (toggled_by (take i p.toggles)) (dwarf a.now))
    steps_are = rw (is-op, is_node, a.labels_are) at x.edit_is

    counts_are : edit_counts p.toggles a.now (waiting d k) ≡ count ∷ edit_counts p.toggles (after this a.now) (waiting d (suc k))
    counts_are =
        ap (edit_counts p.toggles a.now) split
        ∙ ap (λ n. (edit (dwarf (after this a.now)) (node_at a.now this.position) (labels (toggled_by (take n p.toggles)) (dwarf a.now))).count
        ∷ edit_counts p.toggles (after this a.now) (waiting d (suc k))) now_is
        ∙ ap (λ (s : Steps). s.count ∷ edit_counts p.toggles (after this a.now) (waiting d (suc k))) (sym steps_are)

    acted : At d p i (k + 1) ks' ls' (set counts k count)
    acted =
        rw (add-one k)
        record {
          now = after this a.now;
          ruled = a.ruled;
          listed = a.listed;
          holds = rw is-op at x.holds;
          ups = x.ups;
          placed = record { so = λ n b. a.placed.so n b ∙ sym (node-all a.now this.position n this.operation) };
          long = x.long;
          labels_are = ap (λ (s : Steps). s.labels) steps_are ∙ edit-labels a.now this.position this.operation (toggled_by (take i p.toggles)) operation-here;
          within = omega arith;
          operated = kept-operations a.now this (waiting d (suc k)) (rw split at a.operated).1;
          left = λ m h. a.left m h ∙ ap (λ es. edited_by m es a.now) split ∙ by_now m this (waiting d (suc k)) a.now (omega (arith, now_is));
          waits = rw now_is at (rw split at a.waits).1;
          room = omega (arith, a.room, length-set counts k count);
          counted = a.counted ∙ ap (sets counts k) counts_are;
        }

  -- what the function of one edit asks for
  pub can_edit : {e o : ℕ} → Due d.moments d.positions d.codes d.places k i e o
      → Editable d.rules ks d.firsts d.seconds d.size.leaves d.size.nodes d.links ls e
  can_edit due =
      record {
        formula = a.now;
        position = get_or d.positions k 0;
        at = node_of refl due.node_is;
        ruled = a.ruled;
        ups = a.ups;
        long = a.long;
      }

  pub can_operate : {e o : ℕ} → Due d.moments d.positions d.codes d.places k i e o → o < 4
  can_operate due = omega (arith, due.operation_is, a.listed.low k here, a.listed.high k here)

  -- and what it leaves
  pub acted_now : {e o count : ℕ} {ks' ls' : List ℕ} → Due d.moments d.positions d.codes d.places k i e o
      → EditDone ks d.firsts d.seconds d.size.leaves d.size.nodes d.links ls e o ks' ls' count → At d p i (k + 1) ks' ls' (set counts k count)
  acted_now due x = let n = node_of refl due.node_is in acted due.come n.node_is due.operation_is (x.so a.now (get_or d.positions k 0) n)

module _ {d : Desk} {p : Plan} {i k : ℕ} {ks ls counts : List ℕ} (a : At d p i k ks ls counts) where
  pub readable : Readable d.moments d.positions d.codes k
  readable =
      record {
        position = λ h. omega (arith, a.listed.positions_long);
        small = λ h. place_small a h;
        code = λ h. omega (arith, a.listed.codes_long);
        low = λ h. a.listed.low k h;
      }

  -- where its moment has not come, all that wait are of a later one
  pub all-later : Later d.moments k i → Rises (suc i) (waiting d k)
  all-later none = go (ltb k (length d.moments)) refl
    where
      go : (b : Bool) → ltb k (length d.moments) ≡ b → Rises (suc i) (waiting d k)
      go true e =
          let h = ltb-true k (length d.moments) e in
          rw (waiting-here d a.listed k h) (none.so h, (rw (waiting-here d a.listed k h) at a.waits).1)
      go false e = rw (waiting_none d a.listed k (ltb-false k (length d.moments) e)) tt
