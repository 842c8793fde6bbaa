-- The states one toggle at a time: what a loop over toggles or crossings keeps. `proofs/States.antt` ties it to the counts.
use Rattle.std.specs.Prelude.{ℕ, List, [], ◌∷◌}
use Rattle.formula.specs.States.{State, flipped}

-- The shapes of a list toggled in turn.
unfoldable pub after : State → List ℕ → State
after state [] t = state t
after state (s ∷ ss) t = after (flipped s state) ss t
