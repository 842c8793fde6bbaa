-- What holds of every entry of a list.
use Rattle.std.specs.Prelude.{◌≡◌, Bool, true, List, [], ◌∷◌}

abbrev pub Every : {A : Type 0} → (A → Bool) → List A → Type 0
Every holds [] = Unit {0}
Every holds (x ∷ xs) = (holds x ≡ true) × Every holds xs
