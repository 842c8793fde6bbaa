-- The toggle lists that a run takes, and what it leaves in the lent lists.
use Prim.Native.Nat.{ℕ, zero, suc, ◌<◌, ◌≤◌}
use native.Mathlib.Omega.{arith}
use mathlib.Core.Path.{◌≡◌, refl, sym, ap, ◌∙◌}
use mathlib.Core.Bool.{Bool, true, false}
use mathlib.Core.List.{List, [], ◌∷◌}
use Rattle.std.proofs.Common.{take_while}
use Rattle.std.specs.List.{prefix_len}
use Rattle.std.proofs.lemmas.List.Folds.{length-prefix_len}
use lib.Dec.{ltb}
use borrow.Author.Tests.{ltb-true}
use lib.ListN.{length, get_or, take}
use Rattle.outcome.specs.Lent.{filled}
use Rattle.formula.specs.Formula.{Formula}
use Rattle.formula.specs.States.{outside}
use Rattle.labels.specs.Labels.{labels}
use Rattle.labels.specs.Arrays.{Holds, Tree}
use Rattle.contraction.specs.Entries.{recs}
use Rattle.labels.specs.Linked.{Rules, Shaped, Parents, Chains}
use Rattle.labels.proofs.Held.{held_records, held_shaped}
use Rattle.toggles.specs.Toggles.{toggle_each, toggle_run}
use Rattle.toggles.specs.Named.{first_wrong}
use Rattle.toggles.proofs.Runs.{run_roots, run_labels}
use Rattle.toggle_run.specs.Ran.{RunRoom, TreeRun}
use Rattle.toggle_run.specs.Tables.{Tables, RunDone}

-- the first shape number that is wrong stands after those that are right
by_prefix : (names : ℕ) (ss : List ℕ) → first_wrong names ss ≡ prefix_len (λ s. ltb s names) ss
by_prefix names [] = refl
by_prefix names (s ∷ ss) = by (ltb s names) refl (by_prefix names ss)
  where
    by : (b : Bool) → ltb s names ≡ b → first_wrong names ss ≡ prefix_len (λ t. ltb t names) ss → first_wrong names (s ∷ ss) ≡ prefix_len (λ t. ltb t names) (s ∷ ss)
    by true q ih = rw (q, first_wrong) (omega (arith, ih))
    by false q ih = rw (q, first_wrong) refl

pub by_taking : (names : ℕ) (ss : List ℕ) → first_wrong names ss ≡ length (take_while (λ s. ltb s names) ss)
by_taking names ss = by_prefix names ss ∙ sym (length-prefix_len (λ s. ltb s names) ss)

-- where none is wrong, all are below
pub none-wrong : (names : ℕ) (ss : List ℕ) → first_wrong names ss ≡ length ss → (i : ℕ) → i < length ss → get_or ss i 0 < names
none-wrong names [] e i h = absurd (omega arith)
none-wrong names (s ∷ ss) e i h = go (ltb s names) refl (none-wrong names ss) i h
  where
    go : (b : Bool) → ltb s names ≡ b → (first_wrong names ss ≡ length ss → (i : ℕ) → i < length ss → get_or ss i 0 < names) → (i : ℕ) → i < length (s ∷ ss) → get_or (s ∷ ss) i 0 < names
    go true q ih zero h = ltb-true s names q
    go true q ih (suc i) h = let e' = rw (q, first_wrong) at e in ih (omega arith) i (omega arith)
    go false q ih i h = let e' = rw (q, first_wrong) at e in absurd (omega arith)

-- what a run leaves in the lent lists: a run over the records that the arrays hold is a run on the formula's dwarf tree
module _ {ks fs xs : List ℕ} {leaves nodes : ℕ} where
  pub tree_shaped : Tree ks fs xs leaves nodes → Shaped ks fs xs leaves nodes
  tree_shaped t = held_shaped ks fs xs leaves nodes t.formula t.holds

  tree_room : Tree ks fs xs leaves nodes → nodes ≤ 3072
  tree_room t = (tree_shaped t).room

  pub run_list : {toggles roots counts labels : List ℕ} → RunRoom ks fs xs leaves nodes toggles roots counts labels → nodes ≤ length labels
  run_list r = r.for_labels

  pub tables : {rules ls links : List ℕ} → Rules rules → Tree ks fs xs leaves nodes → length ls ≡ 3072
      → take nodes ls ≡ labels outside (recs ks fs xs 0 nodes) → Parents ks fs xs nodes links → Chains ks fs xs leaves nodes links → Tables rules ks fs xs leaves nodes ls links
  tables r t long is p q =
      record { ruled = r; ready = record { linked = record { shaped = tree_shaped t; ups = p }; chains = q }; long = long; room = tree_room t; labels_are = is }

  pub ran : (ss roots counts list l₀ l₁ : List ℕ) {roots' counts' list' : List ℕ} → take nodes l₀ ≡ labels outside (recs ks fs xs 0 nodes)
      → RunDone (recs ks fs xs 0 nodes) (take nodes l₀) ss roots counts (take nodes l₁) roots' counts' → list' ≡ filled (take nodes l₁) list
      → (f : Formula) → Holds ks fs xs leaves nodes f → TreeRun f ss roots counts list roots' counts' list'
  ran ss roots counts list l₀ l₁ start done copied f h =
      let e = held_records ks fs xs leaves nodes f h in
      let same : toggle_each (recs ks fs xs 0 nodes) (take nodes l₀) ss ≡ toggle_run f ss = rw (start, e) in
      record {
        roots_are = done.roots_are ∙ ap (λ a. filled a.roots roots) same ∙ ap (λ l. filled l roots) (run_roots f ss);
        counts_are = done.counts_are ∙ ap (λ a. filled a.counts counts) same;
        labels_are = copied ∙ ap (λ l. filled l list) (done.labels_are ∙ ap (λ a. a.final) same ∙ run_labels f ss);
      }
