-- What one shape has in the columns, and one round of the loop over the shapes.
use mathlib.Core.Path.{◌≡◌, refl, ◌∙◌, subst}
use mathlib.Core.Bool.{Bool, true, false}
use mathlib.Core.List.{List}
use mathlib.Core.Logic.{◌≢◌}
use Prim.Native.Nat.{ℕ, ◌+◌, ◌*◌, ◌<◌, ◌≤◌}
use native.Mathlib.Omega.{arith}
use lib.Dec.{eqb}
use borrow.Author.Tests.{eqb-true, eqb-false}
use lib.ListN.{length, drop, get_or, set, length-set}
use lib.Seq.{get_or-set_same, get_or-set_other}
use lib.Ieee.{Float, nan}
use Rattle.cross_shapes.specs.declared.Shape.{Shape}
use Rattle.cross_shapes.specs.declared.Block.{Block as Box}
use Rattle.cross_line.specs.Lent.{shape_from}
use Rattle.cross_columns.specs.Columns.{Column, faces_at, Sized, Columns}

-- ---- one number of each axis
abbrev placed : Float → Float → Float → ℕ → List Float → List Float
placed x y z i faces = set (set (set faces i x) (256 + i) y) (512 + i) z

module _ (x y z : Float) (i : ℕ) (faces : List Float) where
  placed-length : length (placed x y z i faces) ≡ length faces
  placed-length = length-set (set (set faces i x) (256 + i) y) (512 + i) z ∙ (length-set (set faces i x) (256 + i) y ∙ length-set faces i x)

  placed-other : (j : ℕ) → j ≢ i → j ≢ 256 + i → j ≢ 512 + i → get_or (placed x y z i faces) j nan ≡ get_or faces j nan
  placed-other j a b c =
      get_or-set_other (set (set faces i x) (256 + i) y) (512 + i) j z nan c
      ∙ (get_or-set_other (set faces i x) (256 + i) j y nan b ∙ get_or-set_other faces i j x nan a)

  module _ (h : i < 256) (s : length faces ≡ 768) where
    long_x : length (set faces i x) ≡ 768
    long_x = length-set faces i x ∙ s

    long_y : length (set (set faces i x) (256 + i) y) ≡ 768
    long_y = length-set (set faces i x) (256 + i) y ∙ long_x

    placed_x : get_or (placed x y z i faces) i nan ≡ x
    placed_x =
        let a : i ≢ 512 + i = λ e. omega arith in
        let b : i ≢ 256 + i = λ e. omega arith in
        get_or-set_other (set (set faces i x) (256 + i) y) (512 + i) i z nan a
        ∙ (get_or-set_other (set faces i x) (256 + i) i y nan b ∙ get_or-set_same faces i x nan (omega arith))

    placed_y : get_or (placed x y z i faces) (256 + i) nan ≡ y
    placed_y =
        let a : 256 + i ≢ 512 + i = λ e. omega arith in
        get_or-set_other (set (set faces i x) (256 + i) y) (512 + i) (256 + i) z nan a ∙ get_or-set_same (set faces i x) (256 + i) y nan (omega (arith, long_x))

    placed_z : get_or (placed x y z i faces) (512 + i) nan ≡ z
    placed_z = get_or-set_same (set (set faces i x) (256 + i) y) (512 + i) z nan (omega (arith, long_y))

    module _ (j : ℕ) (k : j < 256) (d : j ≢ i) where
      still_x : get_or (placed x y z i faces) j nan ≡ get_or faces j nan
      still_x = placed-other j d (λ e. omega arith) (λ e. omega arith)

      still_y : get_or (placed x y z i faces) (256 + j) nan ≡ get_or faces (256 + j) nan
      still_y = placed-other (256 + j) (λ e. omega arith) (λ e. d (omega arith)) (λ e. omega arith)

      still_z : get_or (placed x y z i faces) (512 + j) nan ≡ get_or faces (512 + j) nan
      still_z = placed-other (512 + j) (λ e. omega arith) (λ e. omega arith) (λ e. d (omega arith))

-- ---- the loop
pub empty : {kinds : List ℕ} {numbers lows highs : List Float} {halves : List ℕ} → Sized lows highs halves → Columns kinds numbers 0 lows highs halves
empty s = record { sized = s; right = λ i l. absurd (omega arith) }

module _ {kinds : List ℕ} {numbers lows highs : List Float} {halves : List ℕ} {i : ℕ} (shape : Shape) (faces : Box) (half : ℕ)
    (before : Columns kinds numbers i lows highs halves) (inside : i < 256) (read : shape ≡ shape_from (get_or kinds i 0) (drop (6 * i) numbers)) (held : Column shape faces half) where
  abbrev lows' : List Float
  lows' = placed faces.lx faces.ly faces.lz i lows

  abbrev highs' : List Float
  highs' = placed faces.hx faces.hy faces.hz i highs

  abbrev Here : ℕ → Type 0
  Here j =
      Column (shape_from (get_or kinds j 0) (drop (6 * j) numbers)) (faces_at lows' highs' j) (get_or (set halves i half) j 0)

  now_right : (j : ℕ) → j < i + 1 → Here j
  now_right j less = go (eqb j i) refl
    where
      sl : length lows ≡ 768
      sl = before.sized.lows_length

      sh : length highs ≡ 768
      sh = before.sized.highs_length

      go : (t : Bool) → eqb j i ≡ t → Here j
      go true q =
          let s : j ≡ i = eqb-true j i q in
          rw (
            s,
            placed_x faces.lx faces.ly faces.lz i lows inside sl,
            placed_y faces.lx faces.ly faces.lz i lows inside sl,
            placed_z faces.lx faces.ly faces.lz i lows inside sl,
            placed_x faces.hx faces.hy faces.hz i highs inside sh,
            placed_y faces.hx faces.hy faces.hz i highs inside sh,
            placed_z faces.hx faces.hy faces.hz i highs inside sh,
            get_or-set_same halves i half 0 (omega (arith, before.sized.halves_length)),
            ← read,
          ) held
      go false q =
          let n : j ≢ i = eqb-false j i q in
          let l : j < 256 = omega arith in
          rw (
            still_x faces.lx faces.ly faces.lz i lows inside sl j l n,
            still_y faces.lx faces.ly faces.lz i lows inside sl j l n,
            still_z faces.lx faces.ly faces.lz i lows inside sl j l n,
            still_x faces.hx faces.hy faces.hz i highs inside sh j l n,
            still_y faces.hx faces.hy faces.hz i highs inside sh j l n,
            still_z faces.hx faces.hy faces.hz i highs inside sh j l n,
            get_or-set_other halves i j half 0 n,
          ) (before.right j (omega arith))

  pub column_more : (x y : List Float) → x ≡ lows' → y ≡ highs' → Columns kinds numbers (i + 1) x y (set halves i half)
  column_more x y ex ey =
      rw (ex, ey) (record {
        sized = record {
          lows_length = placed-length faces.lx faces.ly faces.lz i lows ∙ before.sized.lows_length;
          highs_length = placed-length faces.hx faces.hy faces.hz i highs ∙ before.sized.highs_length;
          halves_length = length-set halves i half ∙ before.sized.halves_length;
        };
        right = now_right;
      })
