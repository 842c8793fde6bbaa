-- A drawing in columns: the faces of its shapes by axis, and which shapes are half-spaces.
use Rattle.std.specs.Prelude.{ℕ, zero, suc, ◌+◌, ◌-◌, ◌*◌, ◌<◌, ◌≡◌, true, cond, List, [], ◌∷◌, eqb, length, drop, get_or, Float}
use Rattle.std.specs.Float.{nan}
use Rattle.cross_cuts.specs.Cuts.{Cut}
use Rattle.cross_shapes.specs.Shapes.{finite, half_space_cut, shape_cut}
use Rattle.cross_shapes.specs.declared.Probe.{Probe}
use Rattle.cross_shapes.specs.declared.Shape.{Shape}
use Rattle.cross_shapes.specs.declared.Shape.TheVariants.{HalfSpace, Block}
use Rattle.cross_shapes.specs.declared.Block.{Block as Box}
use Rattle.cross_line.specs.Lent.{shape_from}

-- A box by its faces, and that it is no half-space; a half-space by its axis, 1 more, with its face on every axis.
abbrev pub Column : Shape → Box → ℕ → Type 0
Column (HalfSpace axis face) b half = (half ≡ axis + 1) × (b ≡ record { lx = face; ly = face; lz = face; hx = face; hy = face; hz = face })
Column (Block box) b half = (half ≡ 0) × (b ≡ box)

-- The faces of shape i.
abbrev pub faces_at : List Float → List Float → ℕ → Box
faces_at lows highs i =
    record {
      lx = get_or lows i nan;
      ly = get_or lows (256 + i) nan;
      lz = get_or lows (512 + i) nan;
      hx = get_or highs i nan;
      hy = get_or highs (256 + i) nan;
      hz = get_or highs (512 + i) nan;
    }

-- An axis is a part of 256: x, then y, then z.
pub record Sized (lows highs : List Float) (halves : List ℕ) : Type 0 where
  pub lows_length : length lows ≡ 768
  pub highs_length : length highs ≡ 768
  pub halves_length : length halves ≡ 256

-- The first n entries of each axis are those of the first n shapes.
pub record Columns (kinds : List ℕ) (numbers : List Float) (n : ℕ) (lows highs : List Float) (halves : List ℕ) : Type 0 where
  pub sized : Sized lows highs halves
  pub right : (i : ℕ) → i < n → Column (shape_from (get_or kinds i 0) (drop (6 * i) numbers)) (faces_at lows highs i) (get_or halves i 0)

-- The first n entries of each axis are finite.
pub record Finite (n : ℕ) (faces : List Float) : Type 0 where
  pub x : (i : ℕ) → i < n → finite (get_or faces i nan) ≡ true
  pub y : (i : ℕ) → i < n → finite (get_or faces (256 + i) nan) ≡ true
  pub z : (i : ℕ) → i < n → finite (get_or faces (512 + i) nan) ≡ true

pub record FiniteFaces (n : ℕ) (lows highs : List Float) : Type 0 where
  pub low : Finite n lows
  pub high : Finite n highs

-- What a line has of shape i, by its columns.
abbrev pub cut_in : Probe → List Float → List Float → List ℕ → ℕ → Cut
cut_in probe lows highs halves i = cond (eqb (get_or halves i 0) 0) (shape_cut probe (Block (faces_at lows highs i))) (half_space_cut probe (get_or halves i 0 - 1) (get_or lows i nan))

unfoldable pub cuts_from : Probe → List Float → List Float → List ℕ → ℕ → ℕ → List Cut
cuts_from probe lows highs halves i zero = []
cuts_from probe lows highs halves i (suc n) = cut_in probe lows highs halves i ∷ cuts_from probe lows highs halves (suc i) n

-- And of the first n shapes.
abbrev pub cuts_in : Probe → ℕ → List Float → List Float → List ℕ → List Cut
cuts_in probe n lows highs halves = cuts_from probe lows highs halves 0 n
