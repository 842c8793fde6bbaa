-- Calls for two foundries on the worked sheet, request K8: what each of them gets.
use Rattle.std.specs.Prelude.{ℕ, ◌≡◌, List, [], ◌∷◌}
use Rattle.outcome.specs.Outcome.{Outcome, given, refused}
use Rattle.sheet.specs.Sheet.{alone}
use Rattle.toggles.specs.Toggles.{Answers, answers}
use Rattle.job_both.specs.Sharing.{sharing, serving}
use Rattle.demands.specs.Worked.{worked, room}

-- The sheet A B C union difference, an order, the two lists, and what each foundry gets; each answer list has room for 12 entries.
pub data Call : Type 0 where
  call : List ℕ → List ℕ → List ℕ → Outcome Answers → Outcome Answers → Call

abbrev Holds : Call → Type 0
Holds (call order first second to_first to_second) =
    let shared = sharing (alone worked) order first second in
    (serving shared first room room room ≡ to_first) × (serving shared second room room room ≡ to_second)

abbrev pub All : List Call → Type 0
All [] = Unit {0}
All (c ∷ cs) = Holds c × All cs

abbrev AB : Outcome Answers
AB = given (answers (1 ∷ 0 ∷ []) (2 ∷ 2 ∷ []) (1 ∷ 1 ∷ 0 ∷ 1 ∷ 1 ∷ 0 ∷ []))

abbrev B : Outcome Answers
B = given (answers (0 ∷ []) (2 ∷ []) (0 ∷ 1 ∷ 0 ∷ 1 ∷ 0 ∷ 0 ∷ []))

abbrev pub calls : List Call
calls =
    -- A, B for the first and B for the second, mixed in two ways: each gets what its list alone would.
    call (0 ∷ 1 ∷ 0 ∷ []) (0 ∷ 1 ∷ []) (1 ∷ []) AB B
    ∷ call (1 ∷ 0 ∷ 0 ∷ []) (0 ∷ 1 ∷ []) (1 ∷ []) AB B
    -- Shape 3 in one list: 10 to that foundry alone.
    ∷ call (0 ∷ 1 ∷ 0 ∷ []) (0 ∷ 3 ∷ []) (1 ∷ []) (refused 10 1) B
    -- A turn too few, or an entry that names neither: 13 to both, before 10.
    ∷ call (0 ∷ 1 ∷ []) (0 ∷ 3 ∷ []) (1 ∷ []) (refused 13 0) (refused 13 0)
    ∷ call (0 ∷ 2 ∷ 0 ∷ []) (0 ∷ 3 ∷ []) (1 ∷ []) (refused 13 0) (refused 13 0)
    ∷ []
