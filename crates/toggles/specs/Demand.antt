-- What the demands say of a toggle run: its roots by the formula and the oddness of the toggles so far, and the leaves of a shape.
use Rattle.std.specs.Prelude.{ℕ, ◌+◌, cond, List, [], ◌∷◌, ◌++◌, eqb}
use Rattle.formula.specs.Formula.{Formula, leaf, node, inside}
use Rattle.formula.specs.States.{toggled_by}
use Rattle.labels.specs.Labels.{bit}

-- After each toggle the answer is the formula's value; `done` are the toggles before.
abbrev pub roots_after : Formula → List ℕ → List ℕ → List ℕ
roots_after f done [] = []
roots_after f done (s ∷ ss) =
    bit (inside f (toggled_by (done ++ (s ∷ [])))) ∷ roots_after f (done ++ (s ∷ [])) ss

abbrev pub roots : Formula → List ℕ → List ℕ
roots f ss = roots_after f [] ss

-- How many leaves of the formula are of shape s.
abbrev pub leaves_of : ℕ → Formula → ℕ
leaves_of s (leaf t) = cond (eqb t s) 1 0
leaves_of s (node o l r) = leaves_of s l + leaves_of s r
