-- The five columns of document 01's table of R's pairs, computed from the operations.
use mathlib.Core.Path.{◌≡◌, refl}
use mathlib.Core.Bool.{true, false}
use mathlib.Core.List.{[], ◌∷◌}
use Rattle.labels.specs.Labels.{pair}
use Rattle.labels.specs.Columns.{row}

pub columns : (row false ≡
    pair true false ∷ pair true false
    ∷ pair false false ∷ pair false false
    ∷ pair false false
    ∷ pair true false
    ∷ pair true false ∷ pair true false
    ∷ [])
    × (row true ≡
    pair true true ∷ pair true true
    ∷ pair true false ∷ pair true false
    ∷ pair false true
    ∷ pair false false
    ∷ pair false true ∷ pair false true
    ∷ [])
columns = (refl, refl)
