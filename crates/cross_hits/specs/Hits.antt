-- What an axis says of every shape beside what the two others say together, and what is gathered of it.
use Rattle.std.specs.Prelude.{Result, Ok, Err, ℕ, ◌+◌, ◌-◌, ◌/◌, ◌%◌, ◌<◌, ◌≤◌, min, max, ◌≡◌, Bool, true, false, cond, not, ◌&&◌, ◌||◌, ◌≢◌, List, [], ◌∷◌, ltb, eqb, length, get_or, Float}
use Rattle.std.specs.Float.{nan}
use Rattle.std.specs.Float.Ieee.{lt}
use Rattle.outcome.specs.Outcome.{refused}
use Rattle.word_bits.specs.Words.{bit}
use Rattle.cross_ranks.specs.Ranks.{unrank}
use Rattle.cross_shapes.specs.Shapes.{finite, is_zero, wrong, half_space_cut}
use Rattle.cross_shapes.specs.declared.Probe.{Probe}
use Rattle.cross_axis.specs.Axes.{Codes, range_at, FiniteAlong}
use Rattle.cross_axis.specs.Axes as Axes
use Rattle.cross_hits.specs.declared.Alone.{Alone}
use Rattle.cross_hits.specs.declared.Block.{Block}
use Rattle.cross_cuts.specs.Cuts.{Cut, fault, cut, faultless}
use Rattle.cross_cuts.specs.Keys.{Going}

-- A box that is entered at one rank and left at another: "two crossings if the first is smaller, else none".
abbrev pub box_met : ℕ → ℕ → Cut
box_met a b = cond (ltb a b) (cut false (unrank a ∷ unrank b ∷ [])) (cut false [])

-- One axis stands alone; what the other two say together stands in the last part. Where the line is level on the axis it says nothing of a
-- box that it passes between the faces of.
abbrev pub enters : Alone → List ℕ → ℕ → ℕ
enters alone lessers i = max (cond (is_zero alone.along.component) 0 (get_or lessers (alone.start + i) 0)) (get_or lessers (768 + i) 0)

abbrev pub leaves : Alone → List ℕ → ℕ → ℕ
leaves alone greaters i = min (cond (is_zero alone.along.component) 4294967295 (get_or greaters (alone.start + i) 0)) (get_or greaters (768 + i) 0)

abbrev is_half : List ℕ → ℕ → Bool
is_half halves i = not (eqb (get_or halves i 0) 0)

-- A half-space, or a box between whose faces the line is level.
abbrev pub level_at : Alone → List ℕ → List Float → List Float → ℕ → Bool
level_at alone halves lows highs i = is_half halves i || (lt (get_or lows (alone.start + i) nan) alone.along.origin && lt alone.along.origin (get_or highs (alone.start + i) nan))

-- A half-space, or a box that is crossed.
abbrev pub slant_at : Alone → List ℕ → List ℕ → List ℕ → ℕ → Bool
slant_at alone halves lessers greaters i = is_half halves i || ltb (enters alone lessers i) (leaves alone greaters i)

-- The first n bits of a word of 32 are answers that may be given, and the others are off.
pub record Chosen (Gives : ℕ → Bool → Type 0) (n w : ℕ) : Type 0 where
  pub are : (c : ℕ) → c < n → Gives c (bit w c)
  pub none : (c : ℕ) → n ≤ c → c < 32 → bit w c ≡ false

pub record Sized (alone : Alone) (halves lessers greaters : List ℕ) : Type 0 where
  pub inside : alone.start ≤ 512
  pub halves_length : length halves ≡ 256
  pub lessers_length : length lessers ≡ 1024
  pub greaters_length : length greaters ≡ 1024

-- What the line has of shape i is what its half-space's face says, or the ranks.
pub record MetAt (probe : Probe) (cuts : List Cut) (alone : Alone) (halves : List ℕ) (lows : List Float) (lessers greaters : List ℕ) (i : ℕ) : Type 0 where
  pub half : get_or halves i 0 ≢ 0 → get_or cuts i fault ≡ half_space_cut probe (get_or halves i 0 - 1) (get_or lows i nan)
  pub box : get_or halves i 0 ≡ 0 → get_or cuts i fault ≡ box_met (enters alone lessers i) (leaves alone greaters i)

-- A box that is not crossed.
abbrev pub Passed : List Cut → List ℕ → ℕ → Type 0
Passed cuts halves i = (get_or halves i 0 ≡ 0) × (get_or cuts i fault ≡ cut false [])

-- So many shapes from start on: a bit for each that may be crossed, and none for one that is passed.
pub record Told (probe : Probe) (cuts : List Cut) (alone : Alone) (halves : List ℕ) (lows : List Float) (lessers greaters : List ℕ) (start size hits : ℕ) : Type 0 where
  pub off : (c : ℕ) → c < size → bit hits c ≡ false → Passed cuts halves (start + c)
  pub on : (c : ℕ) → c < size → bit hits c ≡ true → MetAt probe cuts alone halves lows lessers greaters (start + c)

-- Two axes say together what the third leaves open: with what it says of a box, whatever ranks code that, they say what the line has of it.
-- A shape with no bit among those that are left over is passed, and so is each of sixteen with no bit.
pub record Crosses (probe : Probe) (cuts : List Cut) (lows highs : List Float) (alone : Alone) (masks halves lessers greaters : List ℕ) : Type 0 where
  pub few : length cuts ≤ 256
  pub counted : alone.shapes ≡ length cuts
  pub masks_length : length masks ≡ 16
  pub ranks : Axes.Sized lows highs lessers greaters
  pub sized : Sized alone halves lessers greaters
  pub numbers : FiniteAlong alone.along
  pub low : (i : ℕ) → i < length cuts → finite (get_or lows (alone.start + i) nan) ≡ true
  pub high : (i : ℕ) → i < length cuts → finite (get_or highs (alone.start + i) nan) ≡ true
  pub half : (i : ℕ) → i < length cuts → get_or halves i 0 ≢ 0 → get_or cuts i fault ≡ half_space_cut probe (get_or halves i 0 - 1) (get_or lows i nan)
  pub sure : (i : ℕ) → i < length cuts → get_or halves i 0 ≡ 0 → range_at lows highs alone.along (alone.start + i) ≢ wrong
  pub right : (i : ℕ) → i < length cuts → get_or halves i 0 ≡ 0 → (l g : ℕ) → Codes (range_at lows highs alone.along (alone.start + i)) l g
      → get_or cuts i fault ≡ box_met (max l (get_or lessers (768 + i) 0)) (min g (get_or greaters (768 + i) 0))
  pub passed : (i : ℕ) → i < length cuts → bit (get_or masks (i / 16) 0) (i % 16) ≡ false → Passed cuts halves i
  pub over : (i : ℕ) → i < length cuts → bit alone.left (i / 16) ≡ false → Passed cuts halves i

-- From one shape to another the bytes of boxes are 0: a line starts outside of every box.
pub record Clear (halves bytes : List ℕ) (start stop : ℕ) : Type 0 where
  pub zero : (j : ℕ) → start ≤ j → j < stop → get_or halves j 0 ≡ 0 → get_or bytes j 0 ≡ 0

-- The first shape at fault; or the shapes below stop are gathered, and no byte of a box from there on is set.
abbrev pub Reached : List Cut → List ℕ → List ℕ → List ℕ → ℕ → Result ℕ ℕ → Type 0
Reached all halves bytes keys stop (Err i) = faultless 16 0 all ≡ refused 16 i
Reached all halves bytes keys stop (Ok m) = Going 256 16 all bytes keys stop m × Clear halves bytes stop (length all)

-- A block before it is gathered: the shapes before it are.
pub record Begun (probe : Probe) (cuts : List Cut) (alone : Alone) (halves : List ℕ) (lows : List Float) (lessers greaters bytes keys : List ℕ) (block : Block) : Type 0 where
  pub few : length cuts ≤ 256
  pub within : block.start + block.size ≤ length cuts
  pub told : Told probe cuts alone halves lows lessers greaters block.start block.size block.hits
  pub going : Going 256 16 cuts bytes keys block.start block.count
  pub clear : Clear halves bytes block.start (length cuts)
