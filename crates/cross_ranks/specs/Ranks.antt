-- The number that a rank stands for: the code holds a signed number as its rank, 2147483648 more.
use Rattle.std.specs.Prelude.{ℕ, ℤ}
use Rattle.std.proofs.Math.IntN.{sub_ℕ}

abbrev pub unrank : ℕ → ℤ
unrank m = sub_ℕ m 2147483648
