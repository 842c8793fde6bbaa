-- Building: from the codes of a formula to its dwarf tree's leaves, nodes, rounds, height and records.
use Rattle.std.specs.Prelude.{ℕ, ◌≡◌, List, length, take}
use Rattle.formula.specs.Formula.{Formula, leaves, postfix, Over}
use Rattle.contraction.specs.Records.{kinds_of, firsts_of, seconds_of}
use Rattle.contraction.specs.Rounds.{dwarf, rounds_of}
use Rattle.contraction.specs.Height.{height}
use Rattle.contraction.specs.declared.Records.{Records}
use Rattle.tree_dwarf.specs.declared.Figures.{Figures}

-- The codes are the postfix order of the formula f, over at most 256 names.
pub record Plans (f : Formula) (codes : List ℕ) : Type 0 where
  pub over : Over 256 f
  pub codes_are : codes ≡ postfix f

-- They are those of some formula.
pub record Planned (codes : List ℕ) : Type 0 where
  pub formula : Formula
  pub plans : Plans formula codes

-- What is built of f: the four numbers, and the records as the first entries of the arrays.
pub record Dwarfed (f : Formula) (rs : Records) (b : Figures) : Type 0 where
  pub leaves_are : b.leaves ≡ leaves f
  pub nodes_are : b.nodes ≡ length (dwarf f)
  pub rounds_are : b.rounds ≡ rounds_of f
  pub height_is : b.height ≡ height (dwarf f)
  pub kinds_are : take b.nodes rs.kinds ≡ kinds_of (dwarf f)
  pub firsts_are : take b.nodes rs.firsts ≡ firsts_of (dwarf f)
  pub seconds_are : take b.nodes rs.seconds ≡ seconds_of (dwarf f)
