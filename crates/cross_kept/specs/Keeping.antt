-- One line after another over one drawing: what is kept between them, and what a line gives.
use Rattle.std.specs.Prelude.{Option, Some, ℕ, ◌+◌, ◌/◌, ◌%◌, ◌<◌, ◌≤◌, min, max, ◌≡◌, Bool, true, false, not, ◌||◌, List, eqb, ltb, length, get_or, Float}
use Rattle.outcome.specs.Outcome.{given}
use Rattle.word_bits.specs.Words.{bit}
use Rattle.cross_cuts.specs.Cuts.{faultless}
use Rattle.cross_cuts.specs.Keys.{Complete}
use Rattle.cross_shapes.specs.declared.Probe.{Probe}
use Rattle.cross_line.specs.Crossing.{good_probe}
use Rattle.cross_columns.specs.Columns.{FiniteFaces, cuts_in}
use Rattle.cross_axis.specs.Axes.{Sized, FiniteAlong, Said, Beside}
use Rattle.cross_axis.specs.declared.Along.{Along}
use Rattle.cross_hits.specs.Hits.{Clear}
use Rattle.cross_kept.specs.declared.Axis.{Axis}
use Rattle.cross_kept.specs.declared.Axis.TheVariants.{X, Y, Z}
use Rattle.cross_kept.specs.declared.Kept.{Kept}

-- Where the part of an axis starts.
abbrev pub starts_at : Axis → ℕ
starts_at X = 0
starts_at Y = 256
starts_at Z = 512

-- The two others.
abbrev pub first : Axis → Axis
first X = Y
first Y = X
first Z = X

abbrev pub second : Axis → Axis
second X = Z
second Y = Z
second Z = Y

-- A line's numbers on an axis.
abbrev pub along_of : Probe → Axis → Along
along_of probe X = record { origin = probe.ox; component = probe.dx }
along_of probe Y = record { origin = probe.oy; component = probe.dy }
along_of probe Z = record { origin = probe.oz; component = probe.dz }

pub record Numbers (kept : Kept) : Type 0 where
  pub one : FiniteAlong kept.one
  pub other : FiniteAlong kept.other

-- A yes means that the two axes that are kept are this line's.
pub record Serves (probe : Probe) (kept : Kept) (r : Bool) : Type 0 where
  pub one : r ≡ true → kept.one ≡ along_of probe (first kept.alone)
  pub other : r ≡ true → kept.other ≡ along_of probe (second kept.alone)

-- The last part is what two axes say together.
pub record Joined (one other shapes : ℕ) (lessers greaters : List ℕ) : Type 0 where
  pub lesser : (i : ℕ) → i < shapes → get_or lessers (768 + i) 0 ≡ max (get_or lessers (one + i) 0) (get_or lessers (other + i) 0)
  pub greater : (i : ℕ) → i < shapes → get_or greaters (768 + i) 0 ≡ min (get_or greaters (one + i) 0) (get_or greaters (other + i) 0)

-- Two axes are put together, and nothing else is changed.
pub record Paired (one other shapes : ℕ) (old-lessers old-greaters lessers greaters : List ℕ) : Type 0 where
  pub lessers_beside : Beside 768 1024 old-lessers lessers
  pub greaters_beside : Beside 768 1024 old-greaters greaters
  pub joined : Joined one other shapes lessers greaters

-- A half-space, or a box of which two axes together leave a length over.
abbrev pub remains : List ℕ → List ℕ → List ℕ → ℕ → Bool
remains halves lessers greaters i = not (eqb (get_or halves i 0) 0) || ltb (get_or lessers (768 + i) 0) (get_or greaters (768 + i) 0)

-- Which of the shapes remain, by bits, and of which sixteens any does.
pub record Leaves (halves lessers greaters masks : List ℕ) (left shapes : ℕ) : Type 0 where
  pub long : length masks ≡ 16
  pub over : (i : ℕ) → i < shapes → bit (get_or masks (i / 16) 0) (i % 16) ≡ remains halves lessers greaters i
  pub none : (i : ℕ) → i < shapes → bit left (i / 16) ≡ false → remains halves lessers greaters i ≡ false

-- Two axes are together: what each says, what both say, and what remains.
pub record Pairs (kept : Kept) (halves : List ℕ) (lows highs : List Float) (lessers greaters : List ℕ) : Type 0 where
  pub said_one : Said lows highs (starts_at (first kept.alone)) (starts_at (first kept.alone) + kept.shapes) kept.one lessers greaters
  pub said_other : Said lows highs (starts_at (second kept.alone)) (starts_at (second kept.alone) + kept.shapes) kept.other lessers greaters
  pub joined : Joined (starts_at (first kept.alone)) (starts_at (second kept.alone)) kept.shapes lessers greaters
  pub leaves : Leaves halves lessers greaters kept.masks kept.left kept.shapes

-- What is kept.
pub record Ranked (kept : Kept) (halves : List ℕ) (lows highs : List Float) (lessers greaters : List ℕ) : Type 0 where
  pub few : kept.shapes ≤ 256
  pub halves_length : length halves ≡ 256
  pub sized : Sized lows highs lessers greaters
  pub numbers : Numbers kept
  pub pairs : Pairs kept halves lows highs lessers greaters

-- Two axes of a line may be put together.
pub record CanPair (probe : Probe) (shapes : ℕ) (halves : List ℕ) (lows highs : List Float) (lessers greaters : List ℕ) : Type 0 where
  pub good : good_probe probe ≡ true
  pub few : shapes ≤ 256
  pub halves_length : length halves ≡ 256
  pub sized : Sized lows highs lessers greaters
  pub faces : FiniteFaces shapes lows highs

-- What may be kept, of so many shapes.
pub record Keeps (shapes : ℕ) (halves : List ℕ) (lows highs : List Float) (lessers greaters : List ℕ) (kept : Option Kept) : Type 0 where
  pub ranked : (k : Kept) → kept ≡ Some k → (k.shapes ≡ shapes) × Ranked k halves lows highs lessers greaters

-- Two axes of this line are together.
pub record Follows (probe : Probe) (shapes : ℕ) (halves : List ℕ) (lows highs : List Float) (lessers greaters : List ℕ) (r : Kept) : Type 0 where
  pub shapes_still : r.shapes ≡ shapes
  pub one : r.one ≡ along_of probe (first r.alone)
  pub other : r.other ≡ along_of probe (second r.alone)
  pub ranked : Ranked r halves lows highs lessers greaters

-- A line that is not at fault, and room for what it has.
pub record Lent (probe : Probe) (shapes : ℕ) (halves : List ℕ) (lows highs : List Float) (bytes keys : List ℕ) : Type 0 where
  pub good : good_probe probe ≡ true
  pub no_fault : faultless 16 0 (cuts_in probe shapes lows highs halves) ≡ given tt
  pub faces : FiniteFaces shapes lows highs
  pub bytes_sized : length bytes ≡ 256
  pub keys_sized : length keys ≡ 512
  pub clear : Clear halves bytes 0 shapes

pub record Over (probe : Probe) (kept : Kept) (halves : List ℕ) (lows highs : List Float) (lessers greaters bytes keys : List ℕ) : Type 0 where
  pub lent : Lent probe kept.shapes halves lows highs bytes keys
  pub follows : Follows probe kept.shapes halves lows highs lessers greaters kept

-- All of its shapes are gathered, and what is kept is kept.
pub record Crossed (probe : Probe) (kept : Kept) (halves : List ℕ) (lows highs : List Float) (lessers greaters bytes keys : List ℕ) (count : ℕ) : Type 0 where
  pub ranked : Ranked kept halves lows highs lessers greaters
  pub gathered : Complete 256 16 (cuts_in probe kept.shapes lows highs halves) bytes keys kept.shapes count
  pub clear : Clear halves bytes 0 kept.shapes
