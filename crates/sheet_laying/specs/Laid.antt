-- What laying a formula with the operation first gives.
use Rattle.std.specs.Prelude.{ℕ, ◌≡◌, List, length}
use Rattle.formula.specs.Formula.{first_operation, Formula, postfix, prefix, Over}
use Rattle.sheet_codes.specs.Codes.{CodesStand}

-- The codes are those of the formula f, in postfix order.
pub record Wholly (codes : List ℕ) (f : Formula) : Type 0 where
  pub over : Over first_operation f
  pub are : codes ≡ postfix f

-- If the codes are a formula's, n of them are laid, with the operation first.
pub record Laid (codes laid : List ℕ) (n : ℕ) : Type 0 where
  pub long : length laid ≡ 2048
  pub are : (f : Formula) → Wholly codes f → CodesStand (prefix f) laid n
