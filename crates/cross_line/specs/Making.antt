-- What is gathered of one line, by what it meets of each shape or ball.
use Rattle.std.specs.Prelude.{ℕ, ◌*◌, ◌<◌, ◌≤◌, ◌≡◌, List, length, get_or, Option, Result}
use Rattle.cross_cuts.specs.Cuts.{Cut, fault}
use Rattle.cross_cuts.specs.Keys.{cut_of, Ends}
use Rattle.cross_cuts.specs.declared.Met.{Met}

-- A call at i gives what the line has of the shape or ball with that number.
abbrev pub Meets : (ℕ → Option Met → Type 0) → List Cut → Type 0
Meets gives cuts = (i : ℕ) (r : Option Met) → i < length cuts → gives i r → cut_of r ≡ get_or cuts i fault

-- There are n of them, and room for a byte and two keys each.
pub record Gatherable (n : ℕ) (bytes keys : List ℕ) : Type 0 where
  pub few : n ≤ 256
  pub room : n ≤ length bytes
  pub twice : length keys ≡ 2 * length bytes

-- The first at fault is found, or all are gathered.
abbrev pub Gathers : (ℕ → Option Met → Type 0) → ℕ → ℕ → List ℕ → List ℕ → Result ℕ ℕ → Type 0
Gathers gives w n bytes keys r = (number : ℕ) (cuts : List Cut) → n ≡ length cuts → Meets gives cuts → Ends w number cuts bytes keys r
