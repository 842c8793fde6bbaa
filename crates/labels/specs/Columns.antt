-- The rows of document 01's table of R's pairs, computed from the operations.
use Rattle.std.specs.Prelude.{ℕ, Bool, List, [], ◌∷◌}
use Rattle.formula.specs.Formula.{union, intersection, difference, exclusive}
use Rattle.contraction.specs.Records.{left, right}
use Rattle.labels.specs.Labels.{raked}

-- A row of the table, from the raked value v; where one column stands for both sides, both are worked out.
abbrev pub row : Bool → List ℕ
row v =
    raked left union v ∷ raked right union v
    ∷ raked left intersection v ∷ raked right intersection v
    ∷ raked left difference v
    ∷ raked right difference v
    ∷ raked left exclusive v ∷ raked right exclusive v
    ∷ []
