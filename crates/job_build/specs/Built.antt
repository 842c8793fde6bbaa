-- The promise of building: the paper's numbers and values for each case of the answer, and the lent lists after the call.
use Rattle.std.specs.Prelude.{Result, ℕ, ◌≡◌, List}
use Rattle.outcome.specs.Outcome.{Outcome, part}
use Rattle.outcome.specs.Refusing.{answered}
use Rattle.outcome.specs.declared.Refusal.{Refusal}
use Rattle.outcome.specs.Lent.{after_call}
use Rattle.contraction.specs.Records.{kinds_of, firsts_of, seconds_of}
use Rattle.tree_dwarf.specs.declared.Figures.{Figures}
use Rattle.job_build.specs.Building.{DwarfTree, Summary, summary, summary_of}

abbrev pub figures : Figures → Summary
figures b = summary b.leaves b.nodes b.rounds b.height

abbrev pub built_of : Result Figures Refusal → Outcome Summary
built_of r = part figures (answered r)

-- Of the job's outcome and the lists as lent: the lists after the call.
pub record BuiltLists (o : Outcome DwarfTree) (kinds firsts seconds kinds' firsts' seconds' : List ℕ) : Type 0 where
  pub kinds_list : kinds' ≡ after_call (part (λ t. kinds_of t.records) o) kinds
  pub firsts_list : firsts' ≡ after_call (part (λ t. firsts_of t.records) o) firsts
  pub seconds_list : seconds' ≡ after_call (part (λ t. seconds_of t.records) o) seconds

-- And the answer r.
pub record Built (o : Outcome DwarfTree) (kinds firsts seconds : List ℕ) (r : Result Figures Refusal) (kinds' firsts' seconds' : List ℕ) : Type 0 where
  pub answer : built_of r ≡ part summary_of o
  pub lists : BuiltLists o kinds firsts seconds kinds' firsts' seconds'
