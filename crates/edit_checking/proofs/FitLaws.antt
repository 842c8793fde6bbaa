-- The judgement of edits, one by one.
use Prim.Native.Nat.{ℕ, ◌+◌, ◌≤◌}
use mathlib.Core.Path.{◌≡◌}
use mathlib.Core.List.{List}
use lib.ListN.{length, drop}
use Rattle.edit_checking.specs.Fits.{first_unfit}
use Rattle.edit_checking.specs.Asked.{Equal}

-- the first i edits fit, and `before` is the moment of the last of them
pub data Judging (codes : List ℕ) (most : ℕ) (ms ps cs : List ℕ) (i before : ℕ) : Type 0 where
  judging : Equal ms ps cs → i ≤ length ms → first_unfit codes most 0 ms ps cs ≡ i + first_unfit codes most before (drop i ms) (drop i ps) (drop i cs)
      → Judging codes most ms ps cs i before
