-- Demands 2 and 3 of a toggle run: its roots are the formula's values, and its final labels hang on the oddness of the toggles alone.
-- Of a toggle only this is used: it leaves the labels worked out afresh from the flipped state.
use Prim.Native.Nat.{ℕ, suc}
use mathlib.Core.Path.{◌≡◌, refl, sym, ap, ap₂, ◌∙◌, fun_ext}
use mathlib.Core.Bool.{not, cond}
use mathlib.Core.List.{List, [], ◌∷◌, ◌++◌, append_assoc, append-nil}
use lib.Dec.{eqb}
use lib.ListN.{length}
use Rattle.formula.specs.Formula.{Formula}
use Rattle.formula.specs.States.{outside, toggled_by, flipped}
use Rattle.formula.specs.Flips.{after}
use Rattle.formula.proofs.States.{after-outside, after-append}
use Rattle.contraction.specs.Records.{Rec}
use Rattle.contraction.specs.Rounds.{dwarf}
use Rattle.labels.specs.Labels.{labels}
use Rattle.labels.proofs.Root.{root_label}
use Rattle.toggles.specs.Toggles.{toggle, toggle_each, toggle_run}
use Rattle.toggles.specs.Demand.{roots_after, roots}
use Rattle.toggles.proofs.Afresh.{toggle-labels}

-- one toggle more
flipped_toggled : (done : List ℕ) (s t : ℕ) → flipped s (toggled_by done) t ≡ toggled_by (done ++ (s ∷ [])) t
unfolding after
flipped_toggled done s t =
    ap (λ b. cond (eqb t s) (not b) b) (sym (after-outside done t)) ∙ sym (after-append done (s ∷ []) outside t) ∙ after-outside (done ++ (s ∷ [])) t

pub toggle_more : (f : Formula) (done : List ℕ) (s : ℕ)
    → (toggle (dwarf f) s (labels (toggled_by done) (dwarf f))).labels ≡ labels (toggled_by (done ++ (s ∷ []))) (dwarf f)
toggle_more f done s = toggle-labels f (toggled_by done) s ∙ ap (λ state. labels state (dwarf f)) (fun_ext (flipped_toggled done s))

-- what a run does after the toggles `done`
roots-after : (f : Formula) (done ss : List ℕ) → (toggle_each (dwarf f) (labels (toggled_by done) (dwarf f)) ss).roots ≡ roots_after f done ss
roots-after f done [] = refl
roots-after f done (s ∷ ss) =
    rw (toggle_more f done s) (ap₂ ◌∷◌ (root_label f (toggled_by (done ++ (s ∷ [])))) (roots-after f (done ++ (s ∷ [])) ss))

final_after : (f : Formula) (done ss : List ℕ) → (toggle_each (dwarf f) (labels (toggled_by done) (dwarf f)) ss).final ≡ labels (toggled_by (done ++ ss)) (dwarf f)
final_after f done [] = ap (λ ts. labels (toggled_by ts) (dwarf f)) (sym (append-nil done))
final_after f done (s ∷ ss) =
    ap (λ ls. (toggle_each (dwarf f) ls ss).final) (toggle_more f done s) ∙ final_after f (done ++ (s ∷ [])) ss
    ∙ ap (λ ts. labels (toggled_by ts) (dwarf f)) (append_assoc done (s ∷ []) ss)

-- every shape is outside where no toggle was done
pub none_done : toggled_by [] ≡ outside
unfolding after
none_done = fun_ext (λ t. sym (after-outside [] t))

pub run_roots : (f : Formula) (ss : List ℕ) → (toggle_run f ss).roots ≡ roots f ss
run_roots f ss = ap (λ state. (toggle_each (dwarf f) (labels state (dwarf f)) ss).roots) (sym none_done) ∙ roots-after f [] ss

pub run_labels : (f : Formula) (ss : List ℕ) → (toggle_run f ss).final ≡ labels (toggled_by ss) (dwarf f)
run_labels f ss = ap (λ state. (toggle_each (dwarf f) (labels state (dwarf f)) ss).final) (sym none_done) ∙ final_after f [] ss

-- a root and a count for each toggle
pub length-roots : (rs : List Rec) (ls ss : List ℕ) → length (toggle_each rs ls ss).roots ≡ length ss
length-roots rs ls [] = refl
length-roots rs ls (s ∷ ss) = ap suc (length-roots rs (toggle rs s ls).labels ss)

pub length-counts : (rs : List Rec) (ls ss : List ℕ) → length (toggle_each rs ls ss).counts ≡ length ss
length-counts rs ls [] = refl
length-counts rs ls (s ∷ ss) = ap suc (length-counts rs (toggle rs s ls).labels ss)
