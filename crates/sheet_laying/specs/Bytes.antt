-- The bytes of codes.
use Rattle.std.specs.Prelude.{ℕ, ◌/◌, ◌%◌, List, [], ◌∷◌}

-- Two bytes a code, high byte first.
unfoldable pub code_bytes : List ℕ → List ℕ
code_bytes [] = []
code_bytes (c ∷ cs) = c / 256 ∷ c % 256 ∷ code_bytes cs
