-- The table of what each kind makes of two labels.
use Prim.Native.Nat.{ℕ, ◌+◌, ◌*◌, ◌/◌, ◌%◌, ◌<◌, ◌≤◌}
use native.Mathlib.Omega.{arith}
use mathlib.Core.Path.{◌≡◌, refl, ◌∙◌}
use mathlib.Core.Bool.{Bool, true, false}
use mathlib.Core.List.{List}
use lib.Dec.{eqb}
use lib.ListN.{length, get_or, set, replicate, length-set, length-replicate}
use lib.Seq.{get_or-set_same, get_or-set_other}
use borrow.Author.Tests.{eqb-true, eqb-false}
use Rattle.contraction.specs.Entries.{kind_at}
use Rattle.labels.specs.Labels.{rule}
use Rattle.labels.specs.Linked.{Rules}

-- the first i entries are worked out
pub record RulesTo (i : ℕ) (rs : List ℕ) : Type 0 where
  pub within : i ≤ 256
  pub long : length rs ≡ 256
  pub so : (j : ℕ) → j < i → get_or rs j 0 ≡ rule (kind_at (j / 16)) false (j / 4 % 4) (j % 4)
