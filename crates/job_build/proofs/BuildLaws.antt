-- The formula of accepted sheets stands in the arrays: what is built of it is given.
use Prim.Native.Nat.{ℕ, ◌≤◌}
use native.Mathlib.Omega.{arith}
use mathlib.Core.Path.{◌≡◌}
use mathlib.Core.List.{List}
use lib.ListN.{length}
use Rattle.std.specs.Prelude.{Result}
use Rattle.outcome.specs.declared.Refusal.{Refusal}
use Rattle.formula.specs.Formula.{Formula}
use Rattle.contraction.proofs.Size.{dwarf_few}
use Rattle.contraction.specs.declared.Records.{Records}
use Rattle.sheet.specs.Sheet.{Sheets, Sheet}
use Rattle.tree_dwarf.specs.Dwarfed.{Dwarfed}
use Rattle.tree_dwarf.specs.declared.Figures.{Figures}
use Rattle.accepting.specs.Prepared.{Stands}
use Rattle.job_build.specs.Building.{giving, building}
use Rattle.job_build.specs.Built.{Built}

module _ (s : Sheets) (names n : ℕ) (b : Figures) (codes : List ℕ) (t : Records) (stands : (x : Sheet) × Stands s x names n b codes t) where
  pub few_nodes : b.nodes ≤ 3072
  few_nodes = let st = stands.1 in omega (arith, st.built.nodes_are, dwarf_few stands.0.formula st.coded.facts.own.few_leaves)

  pub sheet_built : (ks fs ss : List ℕ) (a : Result Figures Refusal) (ks' fs' ss' : List ℕ)
      → ((g : Formula) → Dwarfed g t b → Built (giving g (length ks) (length fs) (length ss)) ks fs ss a ks' fs' ss')
      → Built (building s (length ks) (length fs) (length ss)) ks fs ss a ks' fs' ss'
  unfolding building
  sheet_built ks fs ss a ks' fs' ss' gives =
      let st = stands.1 in
      let g = stands.0.formula in
      let is-so : building s (length ks) (length fs) (length ss) ≡ giving g (length ks) (length fs) (length ss) = rw st.coded.is in
      rw is-so (gives g st.built)
