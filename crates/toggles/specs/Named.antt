-- Which toggle lists a run takes: those whose every shape number is below the number of names.
use Rattle.std.specs.Prelude.{ℕ, suc, true, false, List, [], ◌∷◌, ltb}

-- The index of the first shape number not below the number of names; the list's length where there is none.
abbrev pub first_wrong : ℕ → List ℕ → ℕ
first_wrong names [] = 0
first_wrong names (s ∷ ss) = elim (ltb s names) [ true ↦ suc (first_wrong names ss) | false ↦ 0 ]
