-- The reach grows shape by shape.
use Prim.Native.Nat.{ℕ, ◌+◌, ◌*◌, ◌<◌, ◌≤◌}
use native.Mathlib.Omega.{arith}
use mathlib.Core.Path.{◌≡◌, refl, sym, ◌∙◌, subst}
use mathlib.Core.Bool.{Bool, true, false, ◌&&◌, true≢false, and-eq-true_iff}
use mathlib.Core.Logic.{◌≢◌}
use mathlib.Core.List.{List}
use borrow.Author.Tests.{eqb-true, eqb-false, eq-eqb, ltb-true}
use lib.Dec.{eqb, ltb}
use lib.ListN.{length, drop, get_or}
use lib.Ieee.{Float, lt, binary64, of_bits}
use Rattle.cross_shapes.specs.Shapes.{finite, on, good_pair}
use Rattle.cross_shapes.specs.declared.Shape.{Shape}
use Rattle.cross_shapes.specs.declared.Shape.TheVariants.{HalfSpace, Block}
use Rattle.cross_shapes.specs.declared.Block.{Block as Box}
use Rattle.cross_line.specs.Lent.{shape_from}
use Rattle.cross_reach.specs.Reach.{Reaches, Plain, Wider}
use Rattle.cross_judge.specs.Covering.{FaceWithin, PairWithin, Within, Covers}
use Rattle.cross_judge.specs.Growing.{PlainAll, Spans, Grown}
use Rattle.cross_judge.specs.declared.Reach.{Reach}

pub pair-finite : (low high : Float) → good_pair low high ≡ true → (finite low ≡ true) × (finite high ≡ true)
unfolding good_pair
pair-finite low high h =
    let a = (and-eq-true_iff (finite low) (finite high && lt low high)).0 h in
    (a.0, ((and-eq-true_iff (finite high) (lt low high)).0 a.1).0)

-- ---- one axis
pub two_faces : (reach low high more r : Float) → Wider reach low more → Wider more high r → Spans reach low high r
two_faces reach low high more r w v = record { plain = v.plain; first = λ h. v.keeps low (w.covers h); last = v.covers; keeps = λ x k. v.keeps x (w.keeps x k) }

-- ---- one shape
module _ (reach : Reach) where
  pub box_grown : (b : Box) (x y z : Float) (gx gy gz : Bool) → gx ≡ good_pair b.lx b.hx → gy ≡ good_pair b.ly b.hy → gz ≡ good_pair b.lz b.hz → Spans reach.x b.lx b.hx x → Spans reach.y b.ly b.hy y → Spans reach.z b.lz b.hz z
      → Grown reach (Block b) (record { good = reach.good && (gx && (gy && gz)); x = x; y = y; z = z })
  box_grown b x y z gx gy gz ex ey ez sx sy sz = record {
    plain = (sx.plain, (sy.plain, sz.plain));
    before = λ h. ((and-eq-true_iff reach.good (gx && (gy && gz))).0 h).0;
    here = λ h.
        let all = (and-eq-true_iff gx (gy && gz)).0 ((and-eq-true_iff reach.good (gx && (gy && gz))).0 h).1 in
        let rest = (and-eq-true_iff gy gz).0 all.1 in
        (pair b.lx b.hx x reach.x sx (sym ex ∙ all.0), (pair b.ly b.hy y reach.y sy (sym ey ∙ rest.0), pair b.lz b.hz z reach.z sz (sym ez ∙ rest.1)));
    keeps_x = sx.keeps;
    keeps_y = sy.keeps;
    keeps_z = sz.keeps;
  }
    where
      pair : (low high r old : Float) → Spans old low high r → good_pair low high ≡ true → PairWithin r low high
      pair low high r old s g = record { sound = g; first = s.first (pair-finite low high g).0; last = s.last (pair-finite low high g).1 }

-- ---- what was covered stays covered
module _ (reach r : Reach) (shape : Shape) (grown : Grown reach shape r) where
  kept_on : (axis : ℕ) (face : Float) (a b : Bool) → eqb axis 0 ≡ a → eqb axis 1 ≡ b → Reaches (on axis reach.x reach.y reach.z) face → Reaches (on axis r.x r.y r.z) face
  kept_on axis face true b e f k = rw e (grown.keeps_x face (rw e at k))
  kept_on axis face false true e f k = rw (e, f) (grown.keeps_y face (rw (e, f) at k))
  kept_on axis face false false e f k = rw (e, f) (grown.keeps_z face (rw (e, f) at k))

  kept : (other : Shape) → Within reach other → Within r other
  kept (HalfSpace axis face) w = record { an_axis = w.an_axis; a_number = w.a_number; reached = kept_on axis face (eqb axis 0) (eqb axis 1) refl refl w.reached }
  kept (Block b) w = (
    record { sound = w.0.sound; first = grown.keeps_x b.lx w.0.first; last = grown.keeps_x b.hx w.0.last },
    (
      record { sound = w.1.0.sound; first = grown.keeps_y b.ly w.1.0.first; last = grown.keeps_y b.hy w.1.0.last },
      record { sound = w.1.1.sound; first = grown.keeps_z b.lz w.1.1.first; last = grown.keeps_z b.hz w.1.1.last },
    ),
  )

-- ---- all shapes
pub record Covering (kinds : List ℕ) (numbers : List Float) (i : ℕ) (reach : Reach) : Type 0 where
  pub few : length kinds ≤ 256
  pub so_far : i ≤ length kinds
  pub plain : PlainAll reach
  pub covers : Covers kinds numbers i reach

pub covering_starts : (kinds : List ℕ) (numbers : List Float) → length kinds ≤ 256 → Covering kinds numbers 0 (record { good = true; x = of_bits binary64 0; y = of_bits binary64 0; z = of_bits binary64 0 })
unfolding of_bits
covering_starts kinds numbers few = record { few = few; so_far = omega arith; plain = (refl, (refl, refl)); covers = record { each = λ good i h. absurd (omega arith) } }

pub covering_on : (kinds : List ℕ) (numbers : List Float) (i : ℕ) (reach r : Reach) (shape : Shape) → Covering kinds numbers i reach → i < length kinds → shape ≡ shape_from (get_or kinds i 0) (drop (6 * i) numbers)
    → Grown reach shape r → Covering kinds numbers (i + 1) r
covering_on kinds numbers i reach r shape covering more read grown = record { few = covering.few; so_far = omega arith; plain = grown.plain; covers = record { each = λ good j h. by good j h (eqb j i) refl } }
  where
    by : r.good ≡ true → (j : ℕ) → j < i + 1 → (t : Bool) → eqb j i ≡ t → Within r (shape_from (get_or kinds j 0) (drop (6 * j) numbers))
    by good j h true e =
        let q : j ≡ i = eqb-true j i e in
        subst (λ (k : ℕ). Within r (shape_from (get_or kinds k 0) (drop (6 * k) numbers))) (sym q) (subst (Within r) read (grown.here good))
    by good j h false e =
        let q : j ≢ i = eqb-false j i e in
        kept reach r shape grown (shape_from (get_or kinds j 0) (drop (6 * j) numbers)) (covering.covers.each (grown.before good) j (omega (arith, q)))

pub covering_ends : (kinds : List ℕ) (numbers : List Float) (i : ℕ) (reach : Reach) → Covering kinds numbers i reach → length kinds ≤ i → Covers kinds numbers (length kinds) reach
covering_ends kinds numbers i reach covering h = record { each = λ good j less. covering.covers.each good j (omega arith) }
