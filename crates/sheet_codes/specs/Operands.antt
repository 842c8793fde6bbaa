-- What the loop over a formula's codes keeps: w operands wait and l leaves were passed. `proofs/CodeSteps.antt` ties it to `formula_of`.
use Rattle.std.specs.Prelude.{ℕ, ◌+◌, ◌-◌, cond, ◌&&◌, List, [], ◌∷◌, ltb, leb, eqb}
use Rattle.outcome.specs.Outcome.{Outcome, given, refused, need, ◌>>◌}
use Rattle.formula.specs.Codes.{is_operation}

-- How many leaves the formula of the codes has.
unfoldable pub counted_leaves : ℕ → ℕ → ℕ → List ℕ → ℕ → ℕ → Outcome ℕ
counted_leaves n tag at [] w l = need (eqb w 1) 7 tag >> given l
counted_leaves n tag at (c ∷ cs) w l =
    cond (ltb c n) (counted_leaves n tag (at + 2) cs (w + 1) (l + 1))
    (cond (is_operation c && leb 2 w) (counted_leaves n tag (at + 2) cs (w - 1) l) (refused 7 at))
