-- Every line's answer is what classifying lines asks for.
use Prim.Native.Nat.{ℕ, ◌+◌, ◌<◌, ◌≤◌}
use native.Mathlib.Omega.{arith}
use mathlib.Core.Path.{◌≡◌, refl, sym, ◌∙◌}
use mathlib.Core.Bool.{Bool, true, false, not, ◌&&◌, ◌||◌, false≢true}
use mathlib.Core.List.{List, [], ◌∷◌, map}
use borrow.Author.Tests.{ltb-true, lt-ltb, le-ltb, leb-true}
use lib.Dec.{leb, ltb}
use lib.IntN.{ℤ, pos, negsuc}
use lib.ListN.{length, length-map}
use lib.Signed.{lt_z}
use Rattle.cross_order.proofs.OrderLaws.{Sorted, ordered_by_sorted}
use Rattle.cross_positions.specs.Positions.{allowed}
use Rattle.cross_cuts.specs.Cuts.{Cut, fault, cut, start_of, start_row, positions_of, LineCrossing, crossed_at, position_of, shape_of, crossings_from, before, line_crossings}
use Rattle.cross_cuts.specs.Every.{Every}
use Rattle.cross_cuts.specs.Fit.{unended, NeverFalls, Fit}
use Rattle.cross_cuts.proofs.EveryLaws.{every_append, every_map, every_ordered_by, every_more}
use Rattle.cross_answer.specs.Giving.{InRange}
use Rattle.cross_answer.proofs.GiveLaws.{crossings_in_range}

-- ---- bytes
start-bit : (c : Cut) → leb (start_of c) 1 ≡ true
start-bit fault = refl
start-bit (cut true positions) = refl
start-bit (cut false positions) = refl

start-bits : (cuts : List Cut) → Every (λ b. leb b 1) (start_row cuts)
start-bits [] = tt
start-bits (c ∷ cuts) = (start-bit c, start-bits cuts)

-- ---- shapes
same_shape : (n j : ℕ) (ps : List ℤ) → j < n → Every (λ p. ltb (shape_of (crossed_at p j)) n) ps
same_shape n j [] h = tt
same_shape n j (p ∷ ps) h = (lt-ltb j n h, same_shape n j ps h)

shapes_below : (n j : ℕ) (cuts : List Cut) → j + length cuts ≤ n → Every (λ x. ltb (shape_of x) n) (crossings_from j cuts)
unfolding crossings_from
shapes_below n j [] h = tt
shapes_below n j (c ∷ cuts) h =
    every_append (λ x. ltb (shape_of x) n) (map (λ p. crossed_at p j) (positions_of c)) (crossings_from (j + 1) cuts)
    (every_map (λ p. crossed_at p j) (λ x. ltb (shape_of x) n) (positions_of c) (same_shape n j (positions_of c) (omega arith))) (shapes_below n (j + 1) cuts (omega arith))

-- ---- positions
allowed-unended : (z : ℤ) → allowed z ≡ true → unended z ≡ true
allowed-unended (pos n) h = lt-ltb n 2147483647 (omega (arith, leb-true n 2147483646 h))
allowed-unended (negsuc n) h = rw (lt-ltb n 2147483647 (within (leb n 2147483646) refl))
  where
    within : (t : Bool) → leb n 2147483646 ≡ t → n < 2147483647
    within true e = omega (arith, leb-true n 2147483646 e)
    within false e = absurd (false≢true (sym (rw e) ∙ h))

lt_z_one_way : (a b : ℤ) → lt_z a b ≡ true → lt_z b a ≡ false
lt_z_one_way (pos a) (pos b) e = le-ltb b a (omega (arith, ltb-true a b e))
lt_z_one_way (pos a) (negsuc b) e = sym e
lt_z_one_way (negsuc a) (pos b) e = refl
lt_z_one_way (negsuc a) (negsuc b) e = le-ltb a b (omega (arith, ltb-true b a e))

before-one_way : (x y : LineCrossing) → before x y ≡ true → before y x ≡ false
before-one_way (crossed_at p i) (crossed_at q j) = by (lt_z p q) refl (lt_z q p) refl (ltb i j) refl
  where
    by : (a : Bool) → lt_z p q ≡ a → (b : Bool) → lt_z q p ≡ b → (c : Bool) → ltb i j ≡ c → (a || (not b && c)) ≡ true → (b || (not a && ltb j i)) ≡ false
    by true e true f c g h = sym (sym (lt_z_one_way p q e) ∙ f)
    by true e false f c g h = refl
    by false e true f c g h = sym h
    by false e false f true g h = le-ltb j i (omega (arith, ltb-true i j g))
    by false e false f false g h = absurd (false≢true h)

not_below : (x y : LineCrossing) → before y x ≡ false → lt_z (position_of y) (position_of x) ≡ false
not_below (crossed_at p i) (crossed_at q j) = by (lt_z q p)
  where
    by : (a : Bool) → (a || (not (lt_z p q) && ltb j i)) ≡ false → a ≡ false
    by true h = h
    by false h = refl

sorted_never_falls : (xs : List LineCrossing) → Sorted before xs → NeverFalls xs
sorted_never_falls [] s = tt
sorted_never_falls (x ∷ []) s = tt
sorted_never_falls (x ∷ y ∷ ys) s = (not_below x y s.0, sorted_never_falls (y ∷ ys) s.1)

-- ---- all together
pub fit : (cuts : List Cut) → InRange cuts → Fit (length cuts) (start_row cuts) (line_crossings cuts)
fit cuts r = record {
  a_byte_a_shape = length-map cuts start_of;
  bytes = start-bits cuts;
  numbers = every_ordered_by (λ x. ltb (shape_of x) (length cuts)) before (crossings_from 0 cuts) (shapes_below (length cuts) 0 cuts (omega arith));
  unended_positions = every_more (λ x. allowed (position_of x)) (λ x. unended (position_of x)) (λ x. allowed-unended (position_of x)) (line_crossings cuts) (crossings_in_range cuts r);
  never_falls = sorted_never_falls (line_crossings cuts) (ordered_by_sorted before before-one_way (crossings_from 0 cuts));
}
