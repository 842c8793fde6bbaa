-- The promise of a toggle run, exit by exit.
use Prim.Native.Nat.{ℕ, ◌≤◌, ◌<◌}
use native.Mathlib.Omega.{arith}
use mathlib.Core.Path.{◌≡◌, refl, sym, ap, ◌∙◌}
use mathlib.Core.Bool.{Bool, true, false}
use mathlib.Core.List.{List, [], ◌∷◌}
use lib.Dec.{ltb, eqb}
use borrow.Author.Tests.{eq-eqb, ne_eqb, le-leb, lt-leb, ltb-true, ltb-false}
use lib.ListN.{length, get_or, get_or-eq_default}
use Rattle.outcome.specs.Outcome.{Outcome, given, refused, unfit, need, ◌>>◌}
use Rattle.formula.specs.Formula.{Formula}
use Rattle.formula.specs.States.{toggled_by}
use Rattle.formula.proofs.Laws.{over_more}
use Rattle.contraction.specs.Rounds.{dwarf}
use Rattle.sheet.specs.Sheet.{Sheets, Sheet}
use Rattle.tree_dwarf.specs.declared.Figures.{Figures}
use Rattle.labels.specs.Arrays.{Holds, Tree}
use Rattle.labels.proofs.Links.{cases}
use Rattle.labels.proofs.Afresh.{length-labels}
use Rattle.toggles.specs.Toggles.{Answers}
use Rattle.toggles.specs.Named.{first_wrong}
use Rattle.toggle_run.specs.Ran.{RunRoom, TreeRun}
use Rattle.toggle_run.proofs.RanLaws.{none-wrong}
use Rattle.accepting.specs.Accepting.{accepted}
use Rattle.contraction.specs.declared.Records.{Records}
use Rattle.accepting.specs.Prepared.{Stands, Says}
use Rattle.accepting.specs.declared.Prepared.{Prepared}
use Rattle.std.specs.Prelude.{Result, Ok, Err}
use Rattle.outcome.specs.Refusing.{number_of, answered}
use Rattle.outcome.specs.declared.Fault.{Fault}
use Rattle.outcome.specs.declared.Refusal.{Refusal}
use Rattle.outcome.specs.declared.Refusal.TheVariants as refusal
use Rattle.job_run.specs.Running.{answers_of, toggling, running}
use Rattle.job_run.specs.Ran.{Ran}

pub run_refused : (o : Outcome Answers) (rs cs ls : List ℕ) (number place : ℕ) → o ≡ refused number place → Ran o rs cs ls (refused number place) rs cs ls
run_refused o rs cs ls number place is =
    record { answer = rw is; lists = record { roots_list = rw is; counts_list = rw is; labels_list = rw is } }

pub run_unfit : (o : Outcome Answers) (rs cs ls : List ℕ) (number place : ℕ) → o ≡ unfit number place → Ran o rs cs ls (unfit number place) rs cs ls
run_unfit o rs cs ls number place is =
    record { answer = rw is; lists = record { roots_list = rw is; counts_list = rw is; labels_list = rw is } }

-- there is room for the run
pub run_room : {k f e : List ℕ} {leaves nodes : ℕ} (ts rs cs ls : List ℕ) {names : ℕ} → Tree k f e leaves nodes → names ≤ 256 → first_wrong names ts ≡ length ts
    → length ts ≤ length rs → length ts ≤ length cs → nodes ≤ length ls → RunRoom k f e leaves nodes ts rs cs ls
run_room ts rs cs ls {names} tree few all_known for_roots for_counts for_labels =
    record {
      tree = tree;
      answers =
          record {
            named = shape_known;
            for_roots = for_roots;
            for_counts = for_counts;
          };
      for_labels = for_labels;
    }
  where
    shape_known : (i : ℕ) → get_or ts i 0 < 256
    shape_known i =
        cases (ltb i (length ts))
        (λ q. let below = none-wrong names ts all_known i (ltb-true i (length ts) q) in omega arith)
        (λ q. let none : get_or ts i 0 ≡ 0 = get_or-eq_default ts 0 (ltb-false i (length ts) q) in omega arith)

-- every toggle is a shape of the sheet; the answer lists are judged, and the run is given
module _ (names nodes : ℕ) (ts rs cs ls : List ℕ) (all_known : first_wrong names ts ≡ length ts) (k f e : List ℕ) (leaves : ℕ) where
  abbrev asked : Formula → Outcome Answers
  asked g = toggling g names ts (length rs) (length cs) (length ls)

  known : eqb (first_wrong names ts) (length ts) ≡ true
  known = eq-eqb (first_wrong names ts) (length ts) all_known

  pub run_given : length ts ≤ length rs → length ts ≤ length cs → nodes ≤ length ls
      → (rs' cs' ls' : List ℕ) → ((g : Formula) → Holds k f e leaves nodes g → TreeRun g ts rs cs ls rs' cs' ls')
      → (g : Formula) → Holds k f e leaves nodes g → Ran (asked g) rs cs ls (given nodes) rs' cs' ls'
  unfolding toggling
  run_given h i j rs' cs' ls' ran g so =
      let is : asked g ≡ given (answers_of g ts) = rw (known, ← so.nodes_are, le-leb _ _ h, le-leb _ _ i, le-leb _ _ j) in
      let r = ran g so in
      record {
        answer = rw is (ap given (so.nodes_are ∙ sym (length-labels (toggled_by ts) (dwarf g))));
        lists =
            record {
              roots_list = rw is r.roots_are;
              counts_list = rw is r.counts_are;
              labels_list = rw is r.labels_are;
            };
      }

running-accepted : (ts : List ℕ) (roots counts labels : ℕ) (s : Sheets) (x : Sheet) → accepted s ≡ given x
    → running s ts roots counts labels ≡ toggling x.formula (length x.names) ts roots counts labels
unfolding running
running-accepted ts roots counts labels s x is = rw is

-- a sheet is refused, or the formula stands in the arrays
module _ (s : Sheets) (codes : List ℕ) (t : Records) (ts rs cs ls : List ℕ) (r : Result Prepared Refusal) (says : Says s codes t r) where
  pub sheet-refused : (e : Refusal) → r ≡ Err e
      → Ran (running s ts (length rs) (length cs) (length ls)) rs cs ls (answered {A = ℕ} (Err e)) rs cs ls
  unfolding running
  sheet-refused (refusal.Refused f) is =
      let a : accepted s ≡ refused (number_of f.reason) f.place = rw is at says in
      run_refused (running s ts (length rs) (length cs) (length ls)) rs cs ls (number_of f.reason) f.place (rw a)
  sheet-refused (refusal.Unfit f) is =
      let a : accepted s ≡ unfit (number_of f.reason) f.place = rw is at says in
      run_unfit (running s ts (length rs) (length cs) (length ls)) rs cs ls (number_of f.reason) f.place (rw a)

  module _ (p : Prepared) (is : r ≡ Ok p) where
    pub stands : (x : Sheet) × Stands s x p.names p.codes p.built codes t
    stands = rw is at says

    pub few_names : p.names ≤ 256
    few_names = let st = stands.1 in omega (arith, st.coded.names_are, st.coded.facts.own.good_names.few)

    pub holds : Holds t.kinds t.firsts t.seconds p.built.leaves p.built.nodes stands.0.formula
    holds =
        let st = stands.1 in
        record {
          leaves_are = st.built.leaves_are;
          nodes_are = st.built.nodes_are;
          few = st.coded.facts.own.few_leaves;
          named = over_more stands.0.formula _ 256 st.coded.facts.own.good_names.few st.coded.facts.own.over;
          kinds_are = st.built.kinds_are;
          firsts_are = st.built.firsts_are;
          seconds_are = st.built.seconds_are;
        }

    pub tree : Tree t.kinds t.firsts t.seconds p.built.leaves p.built.nodes
    tree = record { formula = stands.0.formula; holds = holds }

    pub sheet_ran : (a : Outcome ℕ) (rs' cs' ls' : List ℕ)
        → ((g : Formula) → Holds t.kinds t.firsts t.seconds p.built.leaves p.built.nodes g → Ran (toggling g p.names ts (length rs) (length cs) (length ls)) rs cs ls a rs' cs' ls')
        → Ran (running s ts (length rs) (length cs) (length ls)) rs cs ls a rs' cs' ls'
    sheet_ran a rs' cs' ls' gives =
        let st = stands.1 in
        let g = stands.0.formula in
        let is-so : running s ts (length rs) (length cs) (length ls) ≡ toggling g p.names ts (length rs) (length cs) (length ls) =
        running-accepted ts (length rs) (length cs) (length ls) s stands.0 st.coded.is ∙ ap (λ m. toggling g m ts (length rs) (length cs) (length ls)) (sym st.coded.names_are) in
        rw is-so (gives g holds)
