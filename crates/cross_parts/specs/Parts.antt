-- The lines of a drawing cut into parts, and what is given for the parts put together.
use Rattle.std.specs.Prelude.{ℕ, ◌*◌, ◌≡◌, List, [], ◌∷◌, ◌++◌, take, drop, Float}
use Rattle.lines.specs.Lines.{LineLists}
use Rattle.cross_drawn.specs.Drawn.{Drawn}
use Rattle.cross_drawn.specs.Refusing.{OfLines, gives}

-- Six numbers a line. The sizes are how many lines each part has but the last, which has the rest.
abbrev pub probe_parts : List ℕ → List Float → List (List Float)
probe_parts [] lines = lines ∷ []
probe_parts (r ∷ rs) lines = take (6 * r) lines ∷ probe_parts rs (drop (6 * r) lines)

-- What a job gives for each part, lent lists of its own.
abbrev pub EachDrawn : (List Float → LineLists → OfLines Drawn) → List (List Float) → List Drawn → Type 0
EachDrawn job [] [] = Unit {0}
EachDrawn job [] (v ∷ vs) = ⊥
EachDrawn job (lines ∷ parts) [] = ⊥
EachDrawn job (lines ∷ parts) (v ∷ vs) = ((lent : LineLists) × (job lines lent ≡ gives v)) × EachDrawn job parts vs

-- What the lines of each part have of each shape, part after part.
abbrev pub one_after_another : List Drawn → Drawn
one_after_another [] = []
one_after_another (v ∷ vs) = v ++ one_after_another vs
