-- What the judgement of edits asks for: lists of equal length.
use Rattle.std.specs.Prelude.{ℕ, ◌≡◌, List, length}

pub record Equal (ms ps cs : List ℕ) : Type 0 where
  pub positions : length ps ≡ length ms
  pub codes : length cs ≡ length ms
