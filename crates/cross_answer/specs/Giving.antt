-- What the code reads of a key, and when it may give what it gathered.
use Rattle.std.specs.Prelude.{ℕ, ◌/◌, ◌%◌, ◌<◌, ◌≤◌, ◌≡◌, List, [], ◌∷◌, map, ℤ, length, take}
use Rattle.outcome.specs.Lent.{filled}
use Rattle.cross_ranks.specs.Ranks.{unrank}
use Rattle.cross_order.specs.Order.{rising}
use Rattle.cross_positions.specs.Positions.{allowed}
use Rattle.cross_cuts.specs.Cuts.{Cut, positions_of}
use Rattle.cross_cuts.specs.Every.{Every}
use Rattle.cross_answer.specs.Answer.{MadeLists}

-- Ranks have 32 bits.
abbrev pub position_in : ℕ → ℤ
position_in key = unrank (key / 256 % 4294967296)

abbrev pub shape_in : ℕ → ℕ
shape_in key = key % 256

-- A call on a key gives what `of` does; keys have 64 bits.
abbrev pub Reads : {T : Type 0} → (ℕ → T → Type 0) → (ℕ → T) → Type 0
Reads gives of = (key : ℕ) (r : _) → key < 18446744073709551616 → gives key r → r ≡ of key

-- There is room for n entries in the start row, and for m in each of positions and shapes.
pub record LongEnough (n m : ℕ) (lent : MadeLists) : Type 0 where
  pub starts : n ≤ length lent.starts
  pub positions : m ≤ length lent.positions
  pub shapes : m ≤ length lent.shapes

-- The first n bytes are given, and the first m keys in rising order.
pub record Written (n m : ℕ) (bytes keys : List ℕ) (lent after : MadeLists) : Type 0 where
  pub starts : after.starts ≡ filled (take n bytes) lent.starts
  pub positions : after.positions ≡ filled (map position_in (rising (take m keys))) lent.positions
  pub shapes : after.shapes ≡ filled (map shape_in (rising (take m keys))) lent.shapes

-- Every position lies in the range that may be given.
abbrev pub InRange : List Cut → Type 0
InRange [] = Unit {0}
InRange (c ∷ cs) = Every allowed (positions_of c) × InRange cs
