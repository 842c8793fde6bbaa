-- A dwarf tree in three arrays: what it is that they hold one.
use Rattle.std.specs.Prelude.{ℕ, ◌≤◌, ◌≡◌, List, length, take}
use Rattle.formula.specs.Formula.{Formula, Over, leaves as leaves_of}
use Rattle.contraction.specs.Records.{kinds_of, firsts_of, seconds_of}
use Rattle.contraction.specs.Rounds.{dwarf}

-- The first entries are the kinds, firsts and seconds of the dwarf tree of f, a formula within a sheet's limits: 1024 leaves, 256 names.
pub record Holds (kinds firsts seconds : List ℕ) (leaves nodes : ℕ) (f : Formula) : Type 0 where
  pub leaves_are : leaves ≡ leaves_of f
  pub nodes_are : nodes ≡ length (dwarf f)
  pub few : leaves_of f ≤ 1024
  pub named : Over 256 f
  pub kinds_are : take nodes kinds ≡ kinds_of (dwarf f)
  pub firsts_are : take nodes firsts ≡ firsts_of (dwarf f)
  pub seconds_are : take nodes seconds ≡ seconds_of (dwarf f)

-- They hold the dwarf tree of some formula.
pub record Tree (kinds firsts seconds : List ℕ) (leaves nodes : ℕ) : Type 0 where
  pub formula : Formula
  pub holds : Holds kinds firsts seconds leaves nodes formula
