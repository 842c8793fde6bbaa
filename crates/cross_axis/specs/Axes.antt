-- What one axis says of boxes: a lesser and a greater rank each. An axis is a part of the columns.
use Rattle.std.specs.Prelude.{ℕ, ◌<◌, ◌≤◌, ◌≡◌, Bool, true, ◌≢◌, List, length, get_or, Float}
use Rattle.std.specs.Float.{nan}
use Rattle.cross_ranks.specs.Ranks.{unrank}
use Rattle.cross_shapes.specs.Shapes.{finite, Range, wrong, missed, free, from, axis_range}
use Rattle.cross_axis.specs.declared.Along.{Along}
use Rattle.cross_axis.specs.declared.Span.{Span}

-- A miss is a greater rank that is not above the lesser one; neither a position nor a miss is the least and the greatest rank; no ranks say
-- that a position may not be given.
abbrev pub Codes : Range → ℕ → ℕ → Type 0
Codes wrong l g = ⊥
Codes missed l g = g ≤ l
Codes free l g = (l ≡ 0) × (g ≡ 4294967295)
Codes (from a b) l g = (unrank l ≡ a) × ((unrank g ≡ b) × (g ≤ 4294967295))

-- What the axis has of the box whose faces stand at k.
abbrev pub range_at : List Float → List Float → Along → ℕ → Range
range_at lows highs along k = axis_range (get_or lows k nan) (get_or highs k nan) along.origin along.component

-- Three axes of faces; three of ranks, and a part more.
pub record Sized (lows highs : List Float) (lessers greaters : List ℕ) : Type 0 where
  pub lows_length : length lows ≡ 768
  pub highs_length : length highs ≡ 768
  pub lessers_length : length lessers ≡ 1024
  pub greaters_length : length greaters ≡ 1024

-- A line's numbers are finite, as those are of every line that is not at fault.
pub record FiniteAlong (along : Along) : Type 0 where
  pub origin : finite along.origin ≡ true
  pub component : finite along.component ≡ true

-- From here to there the faces are of finite numbers, and so is the line.
pub record Fillable (here there : ℕ) (along : Along) (lows highs : List Float) (lessers greaters : List ℕ) : Type 0 where
  pub sized : Sized lows highs lessers greaters
  pub inside : there ≤ 768
  pub numbers : FiniteAlong along
  pub low : (k : ℕ) → here ≤ k → k < there → finite (get_or lows k nan) ≡ true
  pub high : (k : ℕ) → here ≤ k → k < there → finite (get_or highs k nan) ≡ true

-- From here to there the ranks are what the axis says of each box whose positions may be given.
pub record Said (lows highs : List Float) (here there : ℕ) (along : Along) (lessers greaters : List ℕ) : Type 0 where
  pub right : (k : ℕ) → here ≤ k → k < there → range_at lows highs along k ≢ wrong → Codes (range_at lows highs along k) (get_or lessers k 0) (get_or greaters k 0)

-- Nothing is changed but from here to there.
pub record Beside (here there : ℕ) (old new : List ℕ) : Type 0 where
  pub sized : length new ≡ length old
  pub below : (j : ℕ) → j < here → get_or new j 0 ≡ get_or old j 0
  pub above : (j : ℕ) → there ≤ j → get_or new j 0 ≡ get_or old j 0

pub record Filled (lows highs : List Float) (here there : ℕ) (along : Along) (old-lessers old-greaters lessers greaters : List ℕ) : Type 0 where
  pub lessers_beside : Beside here there old-lessers lessers
  pub greaters_beside : Beside here there old-greaters greaters
  pub said : Said lows highs here there along lessers greaters

-- From here to there the ranks are those that a step gives of each box, and nothing else is changed.
pub record Stepped (Gives : Float → Float → Span → Type 0) (lows highs : List Float) (here there : ℕ) (old-lessers old-greaters lessers greaters : List ℕ) : Type 0 where
  pub lessers_beside : Beside here there old-lessers lessers
  pub greaters_beside : Beside here there old-greaters greaters
  pub each : (k : ℕ) → here ≤ k → k < there → Gives (get_or lows k nan) (get_or highs k nan) (record { lesser = get_or lessers k 0; greater = get_or greaters k 0 })

-- A yes means that they are the same numbers.
pub record SameNumbers (before now : Along) (r : Bool) : Type 0 where
  pub are : r ≡ true → before ≡ now
