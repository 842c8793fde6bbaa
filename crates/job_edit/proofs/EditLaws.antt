-- The promise of a toggle run with edits, exit by exit.
use Prim.Native.Nat.{ℕ, zero, suc, ◌<◌, ◌≤◌}
use native.Mathlib.Omega.{arith}
use mathlib.Core.Path.{◌≡◌, refl, sym, ap, ◌∙◌}
use mathlib.Core.Bool.{Bool, true, false, ◌&&◌}
use mathlib.Core.List.{List, [], ◌∷◌}
use lib.Dec.{eqb, leb, ltb}
use borrow.Author.Tests.{eq-eqb, eqb-true, le-leb, leb-true, ltb-true, ltb-false}
use lib.ListN.{length, get_or, take, get_or-eq_default, length-take}
use Rattle.outcome.specs.Outcome.{Outcome, given, refused, unfit}
use Rattle.formula.specs.Formula.{first_operation, code, exclusive, Formula, postfix}
use Rattle.formula.specs.States.{toggled_by}
use Rattle.formula.proofs.Laws.{over_more}
use Rattle.contraction.specs.Rounds.{dwarf}
use Rattle.sheet.specs.Sheet.{Sheets, Sheet}
use Rattle.tree_dwarf.specs.declared.Figures.{Figures}
use Rattle.labels.proofs.Links.{cases}
use Rattle.labels.proofs.Afresh.{length-labels}
use Rattle.toggles.specs.Named.{first_wrong}
use Rattle.toggle_run.proofs.RanLaws.{none-wrong}
use Rattle.accepting.specs.Accepting.{accepted}
use Rattle.contraction.specs.declared.Records.{Records}
use Rattle.accepting.specs.Prepared.{Stands, Says}
use Rattle.accepting.specs.declared.Prepared.{Prepared}
use Rattle.std.specs.Prelude.{Result, Ok, Err}
use Rattle.outcome.specs.Refusing.{number_of, answered}
use Rattle.outcome.specs.declared.Fault.{Fault}
use Rattle.outcome.specs.declared.Refusal.{Refusal}
use Rattle.outcome.specs.declared.Refusal.TheVariants as refusal
use Rattle.edits.proofs.Edits.{edited-nodes}
use Rattle.formula.specs.Codes.{is_operation}
use Rattle.edit_checking.specs.Fits.{operates_at, in_time, fits, first_unfit}
use Rattle.edit_places.specs.Places.{Built, Buildable}
use Rattle.edit_moments.specs.Edits.{Edit, edits_of, after, edited_by}
use Rattle.edit_moments.specs.Listed.{Rises}
use Rattle.edit_mix.specs.Edits.{Answers, answers_of}
use Rattle.edit_run.specs.Ran.{EditRoom, edit-room, EditedRuns}
use Rattle.job_edit.specs.Editing.{Lists, lists, lending, editing, running_edited}
use Rattle.job_edit.specs.Edited.{Edited}

pub edit_refused : (o : Outcome Answers) (lent : Lists) (number place : ℕ) → o ≡ refused number place → Edited o lent (refused number place) lent
edit_refused o lent number place is =
    record { answer = rw is; lists = record { roots_list = rw is; counts_list = rw is; labels_list = rw is; edit_counts_list = rw is } }

pub edit_unfit : (o : Outcome Answers) (lent : Lists) (number place : ℕ) → o ≡ unfit number place → Edited o lent (unfit number place) lent
edit_unfit o lent number place is =
    record { answer = rw is; lists = record { roots_list = rw is; counts_list = rw is; labels_list = rw is; edit_counts_list = rw is } }

-- an edit changes no number of nodes
by_nodes : (m : ℕ) (es : List Edit) (f : Formula) → length (dwarf (edited_by m es f)) ≡ length (dwarf f)
by_nodes m [] f = refl
by_nodes m (e ∷ es) f = go (leb e.moment m) refl (by_nodes m es (after e f))
  where
    go : (b : Bool) → leb e.moment m ≡ b → length (dwarf (edited_by m es (after e f))) ≡ length (dwarf (after e f)) → length (dwarf (edited_by m (e ∷ es) f)) ≡ length (dwarf f)
    go true q ih = rw (q, edited_by) (ih ∙ edited-nodes f e.position e.operation)
    go false q ih = rw (q, edited_by)

-- what the judgement tells of each edit
both_true : (a b : Bool) → (a && b) ≡ true → (a ≡ true) × (b ≡ true)
both_true true b e = (refl, e)
both_true false b e = (e, cc)

record Fit (codes : List ℕ) (most before m p c : ℕ) : Type 0 where
  node : first_operation ≤ get_or codes p 0
  low : first_operation ≤ c
  high : c ≤ code exclusive
  risen : before ≤ m
  in_time : m ≤ most

fit_of : (codes : List ℕ) (most before m p c : ℕ) → fits codes most before m p c ≡ true → Fit codes most before m p c
fit_of codes most before m p c e =
    let a = both_true (operates_at codes p) (is_operation c && in_time most before m) e in
    let b = both_true (is_operation c) (in_time most before m) a.1 in
    let x = both_true (leb first_operation (get_or codes p 0)) (leb (get_or codes p 0) (code exclusive)) a.0 in
    let y = both_true (leb first_operation c) (leb c (code exclusive)) b.0 in
    let z = both_true (leb before m) (leb m most) b.1 in
    record { node = leb-true _ _ x.0; low = leb-true _ _ y.0; high = leb-true _ _ y.1; risen = leb-true _ _ z.0; in_time = leb-true _ _ z.1 }

record AllFit (codes : List ℕ) (most before : ℕ) (ms ps cs : List ℕ) : Type 0 where
  rises : Rises before (edits_of ms ps cs)
  each : (k : ℕ) → k < length ms → (first_operation ≤ get_or codes (get_or ps k 0) 0) × (first_operation ≤ get_or cs k 0) × (get_or cs k 0 ≤ code exclusive) × (get_or ms k 0 ≤ most)

all_fit : (codes : List ℕ) (most before : ℕ) (ms ps cs : List ℕ) → length ps ≡ length ms → length cs ≡ length ms → first_unfit codes most before ms ps cs ≡ length ms
    → AllFit codes most before ms ps cs
all_fit codes most before [] ps cs a b e = record { rises = tt; each = λ k h. absurd (omega arith) }
all_fit codes most before (m ∷ ms) [] cs a b e = absurd (omega arith)
all_fit codes most before (m ∷ ms) (p ∷ ps) [] a b e = absurd (omega arith)
all_fit codes most before (m ∷ ms) (p ∷ ps) (c ∷ cs) a b e =
    go (fits codes most before m p c) refl (all_fit codes most m ms ps cs (omega arith) (omega arith))
  where
    go : (x : Bool) → fits codes most before m p c ≡ x → (first_unfit codes most m ms ps cs ≡ length ms → AllFit codes most m ms ps cs) → AllFit codes most before (m ∷ ms) (p ∷ ps) (c ∷ cs)
    go false q ih = let z = rw (q, first_unfit) at e in absurd (omega arith)
    go true q ih =
        let z = rw (q, first_unfit) at e in
        let f = fit_of codes most before m p c q in
        let w = ih (omega arith) in
        record { rises = (f.risen, w.rises); each = at f w.each }
      where
        at : Fit codes most before m p c
            → ((k : ℕ) → k < length ms → (first_operation ≤ get_or codes (get_or ps k 0) 0) × (first_operation ≤ get_or cs k 0) × (get_or cs k 0 ≤ code exclusive) × (get_or ms k 0 ≤ most))
            → (k : ℕ) → k < length (m ∷ ms)
            → (first_operation ≤ get_or codes (get_or (p ∷ ps) k 0) 0) × (first_operation ≤ get_or (c ∷ cs) k 0) × (get_or (c ∷ cs) k 0 ≤ code exclusive) × (get_or (m ∷ ms) k 0 ≤ most)
        at f w zero h = (f.node, f.low, f.high, f.in_time)
        at f w (suc k) h = w k (omega arith)

equal_lists : (a b : ℕ) (n : ℕ) → (eqb a n && eqb b n) ≡ true → (a ≡ n) × (b ≡ n)
equal_lists a b n e = let w = both_true (eqb a n) (eqb b n) e in (eqb-true a n w.0, eqb-true b n w.1)

-- every question is answered yes: the run is asked for what it may be, and given
module _ (codes ks fs ss : List ℕ) (leaves nodes names : ℕ) (toggles ms ps cs roots counts labels edits : List ℕ)
    (equal : (eqb (length ps) (length ms) && eqb (length cs) (length ms)) ≡ true) (known : first_wrong names toggles ≡ length toggles)
    (fit : first_unfit codes (length toggles) 0 ms ps cs ≡ length ms)
    (for_roots : length toggles ≤ length roots) (for_counts : length toggles ≤ length counts) (for_labels : nodes ≤ length labels) (for_edits : length ms ≤ length edits) where
  pub run_room : length codes < 2048 → names ≤ 256 → Buildable codes ks fs ss leaves nodes → EditRoom codes ks fs ss leaves nodes toggles ms ps cs roots counts labels edits
  run_room few small built =
      let same = equal_lists (length ps) (length cs) (length ms) equal in
      let f = all_fit codes (length toggles) 0 ms ps cs same.0 same.1 fit in
      edit-room
      record {
        formula_few = few;
        built = built;
        listed =
            record {
              positions_long = same.0;
              codes_long = same.1;
              low = λ k h. (f.each k h).1;
              high = λ k h. omega (arith, (f.each k h).2);
              in_time = λ k h. (f.each k h).3;
            };
        rises = f.rises;
        operated = λ k h. (f.each k h).0;
        answers =
            record {
              named = λ i.
                  cases (ltb i (length toggles))
                  (λ q. let below = none-wrong names toggles known i (ltb-true i (length toggles) q) in omega arith)
                  (λ q. let none : get_or toggles i 0 ≡ 0 = get_or-eq_default toggles 0 (ltb-false i (length toggles) q) in omega arith);
              for_roots = for_roots;
              for_counts = for_counts;
            };
        for_labels = for_labels;
        for_edits = for_edits;
      }

  pub run_given : {roots' counts' labels' edits' : List ℕ} → EditedRuns codes ks fs ss leaves nodes toggles ms ps cs roots counts labels edits roots' counts' labels' edits'
      → (g : Formula) → Built codes ks fs ss leaves nodes g
      → Edited (editing g names toggles ms ps cs (lists roots counts labels edits)) (lists roots counts labels edits) (given nodes) (lists roots' counts' labels' edits')
  unfolding editing lending
  run_given done g b =
      let a = answers_of g toggles (edits_of ms ps cs) in
      let fits_formula : first_unfit (postfix g) (length toggles) 0 ms ps cs ≡ length ms = ap (λ q. first_unfit q (length toggles) 0 ms ps cs) (sym b.codes_are) ∙ fit in
      let is : editing g names toggles ms ps cs (lists roots counts labels edits) ≡ given a =
      rw (
        equal,
        eq-eqb (first_wrong names toggles) (length toggles) known,
        eq-eqb (first_unfit (postfix g) (length toggles) 0 ms ps cs) (length ms) fits_formula,
        ← b.holds.nodes_are,
        le-leb _ _ for_roots,
        le-leb _ _ for_counts,
        le-leb _ _ for_labels,
        le-leb _ _ for_edits,
      ) in
      let w = done.so g b in
      let g' = edited_by (length toggles) (edits_of ms ps cs) g in
      record {
        answer = rw is (ap given (b.holds.nodes_are ∙ sym (by_nodes (length toggles) (edits_of ms ps cs) g) ∙ sym (length-labels (toggled_by toggles) (dwarf g'))));
        lists =
            record {
              roots_list = rw is w.roots_are;
              counts_list = rw is w.counts_are;
              labels_list = rw is w.labels_are;
              edit_counts_list = rw is w.edit_counts_are;
            };
      }

-- ---- a sheet is refused, or its formula stands in the arrays
module _ (s : Sheets) (codes : List ℕ) (t : Records) (toggles ms ps cs : List ℕ) (lent : Lists) (r : Result Prepared Refusal) (says : Says s codes t r) where
  pub sheet-refused : (e : Refusal) → r ≡ Err e → Edited (running_edited s toggles ms ps cs lent) lent (answered {A = ℕ} (Err e)) lent
  unfolding running_edited
  sheet-refused (refusal.Refused f) is =
      let a : accepted s ≡ refused (number_of f.reason) f.place = rw is at says in
      edit_refused (running_edited s toggles ms ps cs lent) lent (number_of f.reason) f.place (rw a)
  sheet-refused (refusal.Unfit f) is =
      let a : accepted s ≡ unfit (number_of f.reason) f.place = rw is at says in
      edit_unfit (running_edited s toggles ms ps cs lent) lent (number_of f.reason) f.place (rw a)

module _ (s : Sheets) (codes : List ℕ) (t : Records) (r : Result Prepared Refusal) (says : Says s codes t r) (p : Prepared) (is : r ≡ Ok p) where
  stands : (x : Sheet) × Stands s x p.names p.codes p.built codes t
  stands = rw is at says

  built : Built (take p.codes codes) t.kinds t.firsts t.seconds p.built.leaves p.built.nodes stands.0.formula
  built =
      let st = stands.1 in
      record {
        codes_are = st.coded.codes_are;
        holds =
            record {
              leaves_are = st.built.leaves_are;
              nodes_are = st.built.nodes_are;
              few = st.coded.facts.own.few_leaves;
              named = over_more stands.0.formula _ 256 st.coded.facts.own.good_names.few st.coded.facts.own.over;
              kinds_are = st.built.kinds_are;
              firsts_are = st.built.firsts_are;
              seconds_are = st.built.seconds_are;
            };
      }

  pub sheet_few : (length (take p.codes codes) < 2048) × (p.names ≤ 256)
  sheet_few = let st = stands.1 in (omega (arith, st.coded.few_codes, length-take p.codes codes), omega (arith, st.coded.names_are, st.coded.facts.own.good_names.few))

  pub sheet_buildable : Buildable (take p.codes codes) t.kinds t.firsts t.seconds p.built.leaves p.built.nodes
  sheet_buildable = record { formula = stands.0.formula; built = built }

  pub few_in : p.codes ≤ 2047
  few_in = stands.1.coded.few_codes

  pub sheet-edited : (toggles ms ps cs : List ℕ) {lent after : Lists} {a : Outcome ℕ}
      → ((g : Formula) → Built (take p.codes codes) t.kinds t.firsts t.seconds p.built.leaves p.built.nodes g → Edited (editing g p.names toggles ms ps cs lent) lent a after)
      → Edited (running_edited s toggles ms ps cs lent) lent a after
  unfolding running_edited
  sheet-edited toggles ms ps cs {lent} {after} {a} j =
      let st = stands.1 in
      let g = stands.0.formula in
      let same : running_edited s toggles ms ps cs lent ≡ editing g p.names toggles ms ps cs lent =
      rw st.coded.is (ap (λ m. editing g m toggles ms ps cs lent) (sym st.coded.names_are)) in
      rw same (j g built)
