-- The position that the code's answer says.
use Rattle.std.proofs.Math.Option.{Option, none, some}
use Rattle.std.specs.Prelude.{ℕ, ℤ}
use Rattle.std.specs.Prelude.{Option as Answer, Some, None}
use Rattle.cross_ranks.specs.Ranks.{unrank}

abbrev pub found_of : Answer ℕ → Option ℤ
found_of (Some rank) = some (unrank rank)
found_of None = none
