-- Demands 2 and 3 for runs with edits: both read the sheet as edited by then, and 3 compares runs whose edits end on the same sheet.
use Prim.Native.Nat.{ℕ, zero, suc, ◌+◌, ◌*◌, ◌≤◌, ◌<◌}
use native.Mathlib.Nat.{zero-add, add-zero}
use native.Mathlib.Numerals.{add-one}
use native.Mathlib.Omega.{arith}
use mathlib.Core.Path.{◌≡◌, sym, ap, ap₂, ◌∙◌, fun_ext}
use mathlib.Core.List.{List, [], ◌∷◌, ◌++◌, append_assoc, append-nil}
use lib.ListN.{length, get_or, take, length-append, get_or-append}
use Rattle.outcome.specs.Outcome.{Outcome, given}
use Rattle.outcome.specs.Lent.{filled}
use Rattle.outcome.proofs.Questions.{given-same, part-given}
use Rattle.formula.specs.Formula.{Formula, inside}
use Rattle.formula.specs.States.{toggled_by}
use Rattle.contraction.specs.Rounds.{dwarf}
use Rattle.contraction.specs.Height.{height}
use Rattle.sheet.specs.Sheet.{Sheets, Sheet}
use Rattle.accepting.specs.Accepting.{accepted}
use Rattle.labels.specs.Labels.{bit, labels as labels_of}
use Rattle.toggles.specs.Toggles.{toggle}
use Rattle.toggles.specs.Demand.{leaves_of}
use Rattle.toggles.proofs.Count.{toggle_bound}
use Rattle.edit_moments.specs.Edits.{Edit, edits_of, edited_by}
use Rattle.edit_mix.specs.Edits.{roots_after, counts_after, Answers, answers_of}
use Rattle.edit_run.proofs.RunLaws.{length-roots, length-counts}
use Rattle.job_edit.specs.Editing.{Lists, running_edited}
use Rattle.job_edit.specs.Edited.{Edited}
use Rattle.job_edit.proofs.Settled.{edited-accepted}

roots-at : (f : Formula) (es : List Edit) (done ts : List ℕ) (i : ℕ) → i < length ts
    → get_or (roots_after f es done ts) i 0 ≡ bit (inside (edited_by (length done + i) es f) (toggled_by (done ++ take (suc i) ts)))
roots-at f es done [] i h = absurd (omega arith)
roots-at f es done (t ∷ ts) zero h = ap (λ m. bit (inside (edited_by m es f) (toggled_by (done ++ (t ∷ []))))) (sym (add-zero (length done)))
roots-at f es done (t ∷ ts) (suc i) h =
    let m : length (done ++ (t ∷ [])) + i ≡ length done + suc i = omega (arith, length-append done (t ∷ [])) in
    roots-at f es (done ++ (t ∷ [])) ts i (omega arith)
    ∙ ap₂ (λ n us. bit (inside (edited_by n es f) (toggled_by us))) m (append_assoc done (t ∷ []) (take (suc i) ts))

-- the count of a toggle on the tree of a formula, after the toggles `done`
abbrev count_on : Formula → List ℕ → ℕ → ℕ
count_on g done s = (toggle (dwarf g) s (labels_of (toggled_by done) (dwarf g))).count

counts-at : (f : Formula) (es : List Edit) (done ts : List ℕ) (i : ℕ) → i < length ts
    → get_or (counts_after f es done ts) i 0 ≡ count_on (edited_by (length done + i) es f) (done ++ take i ts) (get_or ts i 0)
counts-at f es done [] i h = absurd (omega arith)
counts-at f es done (t ∷ ts) zero h = ap₂ (λ m us. count_on (edited_by m es f) us t) (sym (add-zero (length done))) (sym (append-nil done))
counts-at f es done (t ∷ ts) (suc i) h =
    let m : length (done ++ (t ∷ [])) + i ≡ length done + suc i = omega (arith, length-append done (t ∷ [])) in
    counts-at f es (done ++ (t ∷ [])) ts i (omega arith)
    ∙ ap₂ (λ n us. count_on (edited_by n es f) us (get_or ts i 0)) m (append_assoc done (t ∷ []) (take i ts))

-- The sheets s, accepted as x, the toggles, and the edits in three lists; the lists after the call.
module _ (s : Sheets) (x : Sheet) (is : accepted s ≡ given x) (ts ms ps cs : List ℕ) (lent : Lists) (nodes : ℕ) (after : Lists)
    (ran : Edited (running_edited s ts ms ps cs lent) lent (given nodes) after) where
  abbrev job : Outcome Answers
  job = running_edited s ts ms ps cs lent

  abbrev es : List Edit
  es = edits_of ms ps cs

  answered : (job ≡ given (answers_of x.formula ts es)) × (length (answers_of x.formula ts es).final ≡ nodes)
  answered =
      let a = part-given (λ (v : Answers). length v.final) job nodes ran.answer in
      let y = edited-accepted s ts ms ps cs lent a.0 a.1 in
      let same : answers_of x.formula ts es ≡ a.0 = ap (λ (z : Sheet). answers_of z.formula ts es) (given-same x y.0 (sym is ∙ y.1)) ∙ y.2 in
      (a.1 ∙ ap given (sym same), ap (λ (v : Answers). length v.final) same ∙ a.2)

  -- Demand 2: after each toggle the answer is the value of the formula as edited by then.
  pub edited_root : (i : ℕ) → i < length ts → get_or after.roots i 0 ≡ bit (inside (edited_by i (edits_of ms ps cs) x.formula) (toggled_by (take (i + 1) ts)))
  edited_root i h =
      let f = x.formula in
      let listed : after.roots ≡ filled (roots_after f es [] ts) lent.roots = rw answered.0 at ran.lists.roots_list in
      ap (λ l. get_or l i 0) listed ∙ get_or-append (roots_after f es [] ts) _ 0 i (omega (arith, length-roots f es [] ts))
      ∙ roots-at f es [] ts i h ∙ rw (zero-add i, add-one i)

  -- Demand 3: the count of a toggle is the number of labels that the rules say are reworked in the tree of the sheet as edited by then,
  pub edited-count : (i : ℕ) → i < length ts
      → get_or after.counts i 0
      ≡ (toggle (dwarf (edited_by i (edits_of ms ps cs) x.formula)) (get_or ts i 0) (labels_of (toggled_by (take i ts)) (dwarf (edited_by i (edits_of ms ps cs) x.formula)))).count
  edited-count i h =
      let f = x.formula in
      let listed : after.counts ≡ filled (counts_after f es [] ts) lent.counts = rw answered.0 at ran.lists.counts_list in
      ap (λ l. get_or l i 0) listed ∙ get_or-append (counts_after f es [] ts) _ 0 i (omega (arith, length-counts f es [] ts))
      ∙ counts-at f es [] ts i h ∙ rw (zero-add i)

  -- and is at most the leaves of that shape times the contracted tree's height.
  pub edited-count-at_most : (i : ℕ) → i < length ts
      → get_or after.counts i 0 ≤ leaves_of (get_or ts i 0) (edited_by i (edits_of ms ps cs) x.formula) * height (dwarf (edited_by i (edits_of ms ps cs) x.formula))
  edited-count-at_most i h =
      let g = edited_by i es x.formula in
      omega (arith, edited-count i h, toggle_bound g (get_or ts i 0) (labels_of (toggled_by (take i ts)) (dwarf g)))

  -- The label at every node is the one worked out afresh in the sheet as edited at the end, from the shapes then inside.
  pub edited-label : (d : ℕ) → d < nodes → get_or after.labels d 0 ≡ get_or (labels_of (toggled_by ts) (dwarf (edited_by (length ts) (edits_of ms ps cs) x.formula))) d 0
  edited-label d h =
      let final = (answers_of x.formula ts es).final in
      let listed : after.labels ≡ filled final lent.labels = rw answered.0 at ran.lists.labels_list in
      ap (λ l. get_or l d 0) listed ∙ get_or-append final _ 0 d (omega (arith, answered.1))

-- Two runs with the same oddness of every shape, whose edits end on the same sheet, leave the same label at every node.
pub same_end-same-labels : (s s₂ : Sheets) (x x₂ : Sheet) (is : accepted s ≡ given x) (is₂ : accepted s₂ ≡ given x₂)
    → (ts ms ps cs : List ℕ) (lent : Lists) (nodes : ℕ) (after : Lists) → Edited (running_edited s ts ms ps cs lent) lent (given nodes) after
    → (us ns qs ds : List ℕ) (lent₂ : Lists) (nodes₂ : ℕ) (after₂ : Lists) → Edited (running_edited s₂ us ns qs ds lent₂) lent₂ (given nodes₂) after₂
    → ((shape : ℕ) → toggled_by ts shape ≡ toggled_by us shape)
    → edited_by (length ts) (edits_of ms ps cs) x.formula ≡ edited_by (length us) (edits_of ns qs ds) x₂.formula
    → (nodes ≡ nodes₂) × ((d : ℕ) → d < nodes → get_or after.labels d 0 ≡ get_or after₂.labels d 0)
same_end-same-labels s s₂ x x₂ is is₂ ts ms ps cs lent nodes after a us ns qs ds lent₂ nodes₂ after₂ b same end =
    let final : labels_of (toggled_by ts) (dwarf (edited_by (length ts) (edits_of ms ps cs) x.formula)) ≡ labels_of (toggled_by us) (dwarf (edited_by (length us) (edits_of ns qs ds) x₂.formula)) =
    ap₂ (λ state g. labels_of state (dwarf g)) (fun_ext same) end in
    let many : nodes ≡ nodes₂ = sym (answered s x is ts ms ps cs lent nodes after a).1 ∙ ap length final ∙ (answered s₂ x₂ is₂ us ns qs ds lent₂ nodes₂ after₂ b).1 in (
      many,
      (λ d h.
          edited-label s x is ts ms ps cs lent nodes after a d h ∙ ap (λ l. get_or l d 0) final
          ∙ sym (edited-label s₂ x₂ is₂ us ns qs ds lent₂ nodes₂ after₂ b d (omega arith))),
    )
