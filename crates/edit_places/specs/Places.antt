-- The node of each position of a formula, in an array.
use Rattle.std.specs.Prelude.{ℕ, ◌<◌, ◌≡◌, List, get_or}
use Rattle.formula.specs.Formula.{Formula, postfix}
use Rattle.edits.specs.Edits.{node_at}
use Rattle.labels.specs.Arrays.{Holds}

-- The codes are the formula's in postfix order, and the arrays hold its dwarf tree.
pub record Built (codes : List ℕ) (ks fs ss : List ℕ) (leaves nodes : ℕ) (f : Formula) : Type 0 where
  pub codes_are : codes ≡ postfix f
  pub holds : Holds ks fs ss leaves nodes f

-- They are those of some formula.
pub record Buildable (codes : List ℕ) (ks fs ss : List ℕ) (leaves nodes : ℕ) : Type 0 where
  pub formula : Formula
  pub built : Built codes ks fs ss leaves nodes formula

-- At an operation's position the number of its node, elsewhere 65535.
pub record Places (f : Formula) (places : List ℕ) : Type 0 where
  pub so : (p : ℕ) → p < 2048 → get_or places p 0 ≡ node_at f p

-- So it is of every formula of which the codes and the arrays are.
pub record PlacesFilled (codes : List ℕ) (ks fs ss : List ℕ) (leaves nodes : ℕ) (places : List ℕ) : Type 0 where
  pub so : (f : Formula) → Built codes ks fs ss leaves nodes f → Places f places
