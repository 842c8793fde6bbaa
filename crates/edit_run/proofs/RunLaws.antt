-- A run with edits: what it begins with, and what it leaves in the lent lists.
use Prim.Native.Nat.{ℕ, suc, ◌+◌, ◌<◌, ◌≤◌}
use native.Mathlib.Nat.{zero-add}
use native.Mathlib.Omega.{arith}
use mathlib.Core.Path.{◌≡◌, refl, sym, ap, ◌∙◌}
use mathlib.Core.List.{List, [], ◌∷◌, ◌++◌}
use lib.ListN.{length, get_or, take, drop}
use lib.Seq.{sets, sets-eq}
use Rattle.outcome.specs.Lent.{filled}
use Rattle.formula.specs.Formula.{first_operation, Formula, Over, postfix}
use Rattle.formula.specs.Codes.{op_of}
use Rattle.formula.specs.States.{outside}
use Rattle.contraction.specs.Rounds.{dwarf}
use Rattle.labels.specs.Labels.{labels}
use Rattle.labels.specs.Arrays.{Tree}
use Rattle.labels.specs.declared.Size.{Size}
use Rattle.labels.proofs.Held.{held_records}
use Rattle.toggles.proofs.Runs.{none_done}
use Rattle.toggle_run.specs.Tables.{Tables}
use Rattle.edits.proofs.Codes.{is_operation_lem}
use Rattle.edit_places.specs.Places.{Built, Buildable, PlacesFilled}
use Rattle.edit_moments.specs.Edits.{Edit, edits_of, after, edit_counts}
use Rattle.edit_moments.specs.Listed.{Operations}
use Rattle.edit_moments.specs.Waiting.{desk, At}
use Rattle.edit_mix.specs.Edits.{roots_after, counts_after, answers_of}
use Rattle.edit_mix.specs.Acting.{plan, CanAct, Acted}
use Rattle.edit_mix.proofs.MixLaws.{Mixing, mixing_start, mixing_act, mixing_on, mixing_end}
use Rattle.edit_run.specs.Ran.{EditFits, EditRoom, edit-room, EditedRun, EditedRuns}

-- ---- lengths
pub length-roots : (f : Formula) (es : List Edit) (done ss : List ℕ) → length (roots_after f es done ss) ≡ length ss
length-roots f es done [] = refl
length-roots f es done (s ∷ ss) = ap suc (length-roots f es (done ++ (s ∷ [])) ss)

pub length-counts : (f : Formula) (es : List Edit) (done ss : List ℕ) → length (counts_after f es done ss) ≡ length ss
length-counts f es done [] = refl
length-counts f es done (s ∷ ss) = ap suc (length-counts f es (done ++ (s ∷ [])) ss)

length_edits : (toggles : List ℕ) (f : Formula) (ms ps cs : List ℕ) → length (edit_counts toggles f (edits_of ms ps cs)) ≤ length ms
length_edits toggles f [] ps cs = omega arith
length_edits toggles f (m ∷ ms) [] cs = omega arith
length_edits toggles f (m ∷ ms) (p ∷ ps) [] = omega arith
length_edits toggles f (m ∷ ms) (p ∷ ps) (c ∷ cs) = omega (arith, length_edits toggles (after (record { moment = m; position = p; operation = op_of c }) f) ms ps cs)

sets_filled : (xs old : List ℕ) → length xs ≤ length old → sets old 0 xs ≡ filled xs old
sets_filled xs old h = sets-eq xs old 0 (omega arith) ∙ ap (λ n. xs ++ drop n old) (zero-add (length xs))

-- ---- every edit is of an operation
all-operations : (f : Formula) → Over 256 f → (ms ps cs : List ℕ) → ((k : ℕ) → k < length ms → first_operation ≤ get_or (postfix f) (get_or ps k 0) 0) → Operations f (edits_of ms ps cs)
all-operations f v [] ps cs h = tt
all-operations f v (m ∷ ms) [] cs h = tt
all-operations f v (m ∷ ms) (p ∷ ps) [] h = tt
all-operations f v (m ∷ ms) (p ∷ ps) (c ∷ cs) h = (is_operation_lem f v p (h 0 (omega arith)), all-operations f v ms ps cs (λ k l. h (suc k) (omega arith)))

-- ---- the run, step by step
module _ {formula ks fs ss : List ℕ} {size : Size} {toggles ms ps cs roots counts list edits : List ℕ} where
  fits_of : EditRoom formula ks fs ss size.leaves size.nodes toggles ms ps cs roots counts list edits
      → EditFits formula ks fs ss size.leaves size.nodes toggles ms ps cs roots counts list edits
  fits_of (edit-room h) = h

  module _ (given : EditRoom formula ks fs ss size.leaves size.nodes toggles ms ps cs roots counts list edits) where
    h : EditFits formula ks fs ss size.leaves size.nodes toggles ms ps cs roots counts list edits
    h = fits_of given

    pub room_few : length formula < 2048
    room_few = h.formula_few

    pub room_built : Buildable formula ks fs ss size.leaves size.nodes
    room_built = h.built

    pub room_tree : Tree ks fs ss size.leaves size.nodes
    room_tree = record { formula = h.built.formula; holds = h.built.built.holds }

    module _ {places rules ls links : List ℕ} (placed : PlacesFilled formula ks fs ss size.leaves size.nodes places) (t : Tables rules ks fs ss size.leaves size.nodes ls links) where
      start : (f : Formula) → Built formula ks fs ss size.leaves size.nodes f → At (desk rules fs ss size links places ms ps cs) (plan f toggles edits) 0 0 ks ls edits
      start f b =
          record {
            now = f;
            ruled = t.ruled;
            listed = h.listed;
            holds = b.holds;
            ups = t.ready.linked.ups;
            placed = placed.so f b;
            long = t.long;
            labels_are =
                t.labels_are ∙ ap (labels outside) (held_records ks fs ss size.leaves size.nodes f b.holds) ∙ ap (λ state. labels state (dwarf f)) (sym none_done);
            within = omega arith;
            operated = all-operations f b.holds.named ms ps cs (rw b.codes_are at h.operated);
            left = λ m l. refl;
            waits = h.rises;
            room = h.for_edits;
            counted = refl;
          }

-- ---- the acts: what they begin with,
pub data Begun (formula ks fs ss : List ℕ) (size : Size) (toggles ms ps cs roots counts list edits places rules ls links : List ℕ) : Type 0 where
  begun : EditRoom formula ks fs ss size.leaves size.nodes toggles ms ps cs roots counts list edits → PlacesFilled formula ks fs ss size.leaves size.nodes places
      → Tables rules ks fs ss size.leaves size.nodes ls links → Begun formula ks fs ss size toggles ms ps cs roots counts list edits places rules ls links

-- and of j acts k were edits
pub record Running (formula ks₀ fs ss : List ℕ) (size : Size) (toggles ms ps cs roots₀ counts₀ list edits₀ places rules ls₀ links : List ℕ) (j k : ℕ) (ks ls roots counts edits : List ℕ) : Type 0 where
  pub from : Begun formula ks₀ fs ss size toggles ms ps cs roots₀ counts₀ list edits₀ places rules ls₀ links
  pub can : CanAct (desk rules fs ss size links places ms ps cs) toggles j k ks ls roots counts edits
  pub mixing : Mixing (desk rules fs ss size links places ms ps cs) toggles ks₀ ls₀ roots₀ counts₀ edits₀ j k ks ls roots counts edits

module _ {formula ks₀ fs ss : List ℕ} {size : Size} {toggles ms ps cs roots₀ counts₀ list edits₀ places rules ls₀ links : List ℕ} where
  pub running-start : EditRoom formula ks₀ fs ss size.leaves size.nodes toggles ms ps cs roots₀ counts₀ list edits₀
      → PlacesFilled formula ks₀ fs ss size.leaves size.nodes places → Tables rules ks₀ fs ss size.leaves size.nodes ls₀ links
      → Running formula ks₀ fs ss size toggles ms ps cs roots₀ counts₀ list edits₀ places rules ls₀ links 0 0 ks₀ ls₀ roots₀ counts₀ edits₀
  running-start given placed t =
      let h = fits_of given in
      let m = mixing_start h.built.formula (start given placed t h.built.formula h.built.built) t.ready.chains h.answers in
      record { from = begun given placed t; can = mixing_act m; mixing = m }

  module _ {j k : ℕ} {ks ls roots counts edits : List ℕ} (g : Running formula ks₀ fs ss size toggles ms ps cs roots₀ counts₀ list edits₀ places rules ls₀ links j k ks ls roots counts edits) where
    pub running-on : {r : ℕ} {ks' ls' roots' counts' edits' : List ℕ} → j < length toggles + length ms → length roots' ≡ length roots → length counts' ≡ length counts → length edits' ≡ length edits
        → Acted (desk rules fs ss size links places ms ps cs) toggles j k r ks ls roots counts edits ks' ls' roots' counts' edits'
        → Running formula ks₀ fs ss size toggles ms ps cs roots₀ counts₀ list edits₀ places rules ls₀ links (j + 1) r ks' ls' roots' counts' edits'
    running-on more a b c done =
        let m = mixing_on g.mixing more a b c done in
        record { from = g.from; can = mixing_act m; mixing = m }

    pub running-room : size.nodes ≤ 3072
    running-room = go g.from
      where
        go : Begun formula ks₀ fs ss size toggles ms ps cs roots₀ counts₀ list edits₀ places rules ls₀ links → size.nodes ≤ 3072
        go (begun given placed t) = t.room

    pub running_list : size.nodes ≤ length list
    running_list = go g.from
      where
        go : Begun formula ks₀ fs ss size toggles ms ps cs roots₀ counts₀ list edits₀ places rules ls₀ links → size.nodes ≤ length list
        go (begun given placed t) = (fits_of given).for_labels

    pub edited-runs : {list' : List ℕ} → length toggles + length ms ≤ j → list' ≡ filled (take size.nodes ls) list
        → EditedRuns formula ks₀ fs ss size.leaves size.nodes toggles ms ps cs roots₀ counts₀ list edits₀ roots counts list' edits
    edited-runs {list'} end copied = record { so = λ f b. go g.from f b }
      where
        go : Begun formula ks₀ fs ss size toggles ms ps cs roots₀ counts₀ list edits₀ places rules ls₀ links → (f : Formula) → Built formula ks₀ fs ss size.leaves size.nodes f
            → EditedRun (answers_of f toggles (edits_of ms ps cs)) roots₀ counts₀ list edits₀ roots counts list' edits
        go (begun given placed t) f b =
            let h = fits_of given in
            let w = mixing_end g.mixing end f (start given placed t f b) in
            let es = edits_of ms ps cs in
            record {
              roots_are = w.roots_are ∙ sets_filled (roots_after f es [] toggles) roots₀ (omega (arith, h.answers.for_roots, length-roots f es [] toggles));
              counts_are = w.counts_are ∙ sets_filled (counts_after f es [] toggles) counts₀ (omega (arith, h.answers.for_counts, length-counts f es [] toggles));
              labels_are = copied ∙ ap (λ l. filled l list) w.labels_are;
              edit_counts_are = w.edits_are ∙ sets_filled (edit_counts toggles f es) edits₀ (omega (arith, h.for_edits, length_edits toggles f ms ps cs));
            }
