-- Runs with edits on the worked sheet, request K13: what they give, and how edits are refused.
use Rattle.std.specs.Prelude.{ℕ, ◌≡◌, List, [], ◌∷◌}
use Rattle.outcome.specs.Outcome.{Outcome, given, refused}
use Rattle.sheet.specs.Sheet.{alone}
use Rattle.edit_mix.specs.Edits.{Answers, answers}
use Rattle.job_edit.specs.Editing.{lists, running_edited}
use Rattle.demands.specs.Worked.{worked, lent_numbers}

-- The sheet A B C union difference, toggles, the edits' moments, positions and codes, and what is given; each answer list has room for 12 entries.
pub data Call : Type 0 where
  call : List ℕ → List ℕ → List ℕ → List ℕ → Outcome Answers → Call

abbrev Holds : Call → Type 0
Holds (call toggles moments positions codes gives) =
    running_edited (alone worked) toggles moments positions codes (lists lent_numbers lent_numbers lent_numbers lent_numbers) ≡ gives

abbrev pub All : List Call → Type 0
All [] = Unit {0}
All (c ∷ cs) = Holds c × All cs

abbrev pub calls : List Call
calls =
    -- A and B toggled; after B the difference becomes a union, and then the union an intersection.
    call (0 ∷ 1 ∷ []) (2 ∷ 2 ∷ []) (4 ∷ 3 ∷ []) (0xFFF0 ∷ 0xFFF1 ∷ []) (given (answers (1 ∷ 0 ∷ []) (2 ∷ 2 ∷ []) (1 ∷ 1 ∷ 0 ∷ 0 ∷ 3 ∷ 1 ∷ []) (2 ∷ 2 ∷ [])))
    -- The difference becomes a union between the two: B's root is that of the sheet as edited by then.
    ∷ call (0 ∷ 1 ∷ []) (1 ∷ []) (4 ∷ []) (0xFFF0 ∷ []) (given (answers (1 ∷ 1 ∷ []) (2 ∷ 2 ∷ []) (1 ∷ 1 ∷ 0 ∷ 1 ∷ 3 ∷ 1 ∷ []) (2 ∷ [])))
    -- The code that stands there already: the edit's own node is counted.
    ∷ call [] (0 ∷ []) (4 ∷ []) (0xFFF2 ∷ []) (given (answers [] [] (0 ∷ 0 ∷ 0 ∷ 0 ∷ 0 ∷ 0 ∷ []) (1 ∷ [])))
    -- Lists of unequal length are 13, before 10; 10 comes before 20.
    ∷ call (3 ∷ []) (0 ∷ 0 ∷ []) (4 ∷ []) (0xFFF2 ∷ []) (refused 13 0)
    ∷ call (3 ∷ []) (0 ∷ []) (2 ∷ []) (0xFFF2 ∷ []) (refused 10 0)
    -- 20: a leaf, a position past the codes, a code that is no operation, a moment above the toggles, a moment that falls.
    ∷ call [] (0 ∷ []) (2 ∷ []) (0xFFF2 ∷ []) (refused 20 0)
    ∷ call [] (0 ∷ []) (5 ∷ []) (0xFFF2 ∷ []) (refused 20 0)
    ∷ call [] (0 ∷ []) (4 ∷ []) (0xFFF4 ∷ []) (refused 20 0)
    ∷ call (0 ∷ []) (2 ∷ []) (4 ∷ []) (0xFFF2 ∷ []) (refused 20 0)
    ∷ call (0 ∷ []) (1 ∷ 0 ∷ []) (4 ∷ 3 ∷ []) (0xFFF2 ∷ 0xFFF1 ∷ []) (refused 20 1)
    ∷ []
