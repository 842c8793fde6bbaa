-- The library's version as one number.
use Rattle.std.specs.Prelude.{ℕ, ◌+◌, ◌*◌}

-- 1000000 for each of its first number, 1000 for each of its second, 1 for each of its third.
abbrev version_number : ℕ → ℕ → ℕ → ℕ
version_number first second third = first * 1000000 + second * 1000 + third

abbrev pub version : ℕ
version = version_number 0 1 0
