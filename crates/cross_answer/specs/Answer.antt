-- The paper's numbers and values for each case of a crossing job's answer, and the job's promise.
use Rattle.std.specs.Prelude.{ℕ, ◌≡◌, List, map, ℤ, length, Result}
use Rattle.outcome.specs.Outcome.{Outcome, part}
use Rattle.outcome.specs.Refusing.{judged}
use Rattle.outcome.specs.declared.Fault.{Fault}
use Rattle.outcome.specs.Lent.{after_call}
use Rattle.cross_cuts.specs.Cuts.{Cut, start_row, line_crossings, position_of, shape_of}
use Rattle.cross_answer.specs.declared.Counts.{Counts}

-- How many entries are given: in the start row, and in each of positions and shapes.
abbrev pub counts : ℕ → ℕ → Counts
counts shapes crossings = record { shapes = shapes; crossings = crossings }

abbrev pub counts_of : List Cut → Counts
counts_of cuts = counts (length (start_row cuts)) (length (line_crossings cuts))

-- The lists that are lent for an answer.
pub record MadeLists : Type 0 where
  pub starts : List ℕ
  pub positions : List ℤ
  pub shapes : List ℕ

abbrev pub made_lists : List ℕ → List ℤ → List ℕ → MadeLists
made_lists starts positions shapes = record { starts = starts; positions = positions; shapes = shapes }

-- Of the job's outcome and the lists as lent: the lists after the call.
pub record CrossedLists (o : Outcome (List Cut)) (lent after : MadeLists) : Type 0 where
  pub starts_list : after.starts ≡ after_call (part start_row o) lent.starts
  pub positions_list : after.positions ≡ after_call (part (λ cuts. map position_of (line_crossings cuts)) o) lent.positions
  pub shapes_list : after.shapes ≡ after_call (part (λ cuts. map shape_of (line_crossings cuts)) o) lent.shapes

-- And the answer r: how many entries are given.
pub record Crossed (o : Outcome (List Cut)) (lent : MadeLists) (r : Result Counts Fault) (after : MadeLists) : Type 0 where
  pub answer : judged r ≡ part counts_of o
  pub lists : CrossedLists o lent after
