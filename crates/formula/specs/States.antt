-- The shapes' states: of each shape, whether it is inside. A shape is inside after an odd number of toggles or crossings.
use Rattle.std.specs.Prelude.{ℕ, zero, suc, ◌+◌, Bool, false, not, cond, List, [], ◌∷◌, eqb}

abbrev pub State : Type 0
State = ℕ → Bool

-- Every shape outside.
abbrev pub outside : State
outside s = false

abbrev pub odd : ℕ → Bool
odd zero = false
odd (suc n) = not (odd n)

-- How often shape s stands in a list of shapes.
unfoldable pub times : ℕ → List ℕ → ℕ
times s [] = 0
times s (t ∷ ts) = cond (eqb s t) 1 0 + times s ts

-- The states after the shapes of a list were toggled, all of them outside at first.
abbrev pub toggled_by : List ℕ → State
toggled_by ts s = odd (times s ts)

-- The same from any states: an odd count changes a shape's.
abbrev pub changed_by : State → List ℕ → State
changed_by state ts s = cond (odd (times s ts)) (not (state s)) (state s)

-- Shape s toggled once more.
abbrev pub flipped : ℕ → State → State
flipped s state t = cond (eqb t s) (not (state t)) (state t)
