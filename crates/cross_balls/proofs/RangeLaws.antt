-- Every position that a ball is crossed at lies in the range that may be given.
use mathlib.Core.Path.{◌≡◌, refl, ap, ◌∙◌}
use Prim.Native.Nat.{ℕ, zero, suc, ◌+◌, ◌-◌, ◌≤◌}
use native.Mathlib.Omega.{arith}
use mathlib.Core.Bool.{Bool, true, false, cond}
use mathlib.Core.List.{List, [], ◌∷◌}
use borrow.Author.Tests.{leb-true, le-leb, le-ltb, lt-ltb, ne_eqb}
use lib.Dec.{leb, ltb}
use lib.IntN.{ℤ, pos, negsuc, nat_abs, ◌+ℤ◌, ◌-ℤ◌}
use Rattle.cross_ranks.specs.Ranks.{unrank}
use Rattle.cross_root.proofs.Greatest.{greatest-le}
use Rattle.cross_positions.specs.Positions.{allowed}
use Rattle.cross_cuts.specs.Cuts.{fault, cut, positions_of}
use Rattle.cross_cuts.specs.Every.{Every}
use Rattle.cross_answer.specs.Giving.{InRange}
use Rattle.cross_balls.specs.Balls.{within, in_ranges, squared, half_chord, sides, chord_cut, ball_cut, ball_cuts}
use Rattle.cross_balls.proofs.BallLaws.{unrank-le, and_left, and_right, first_side, last_side}

-- ---- a number in the centre's range has a rank
record Ranked (z : ℤ) : Type 0 where
  pub rank : ℕ
  pub is : unrank rank ≡ z
  pub low : 1147483648 ≤ rank
  pub high : rank ≤ 3147483648

ranked : (z : ℤ) → within (negsuc 999999999) (pos 1000000000) z ≡ true → Ranked z
ranked (pos n) h =
    let l : n ≤ 1000000000 = leb-true n 1000000000 h in
    let d : 2147483648 + n - 2147483648 ≡ n = omega arith in
    record { rank = 2147483648 + n; is = rw (le-ltb (2147483648 + n) 2147483648 (omega arith)) (ap pos d); low = omega arith; high = omega arith }
ranked (negsuc n) h =
    let l : n ≤ 999999999 = leb-true n 999999999 (and_left (leb n 999999999) true h) in
    let d : 2147483648 - suc (2147483648 - suc n) ≡ n = omega arith in
    record { rank = 2147483648 - suc n; is = rw (lt-ltb (2147483648 - suc n) 2147483648 (omega arith)) (ap negsuc d); low = omega arith; high = omega arith }

allowed-rank : (k : ℕ) → 1 ≤ k → k ≤ 4294967294 → allowed (unrank k) ≡ true
allowed-rank k low high = rw (unrank-le 1 k, unrank-le k 4294967294, le-leb 1 k low, le-leb k 4294967294 high)

-- ---- one ball
sides-allowed : (half : ℕ) (centre : ℤ) → half ≤ 1000000 → Ranked centre → Every allowed (positions_of (sides half centre))
sides-allowed zero centre h m = tt
sides-allowed (suc half) centre h m =
    let c = m.rank in
    let a : allowed (unrank (c - suc half)) ≡ true = allowed-rank (c - suc half) (omega (arith, m.low)) (omega (arith, m.high)) in
    let b : allowed (unrank (c + suc half)) ≡ true = allowed-rank (c + suc half) (omega arith) (omega (arith, m.high)) in
    let first : unrank (c - suc half) ≡ centre -ℤ pos (suc half) = first_side c half (omega (arith, m.low)) ∙ ap (λ z. z -ℤ pos (suc half)) m.is in
    let last : unrank (c + suc half) ≡ centre +ℤ pos (suc half) = last_side c (suc half) ∙ ap (λ z. z +ℤ pos (suc half)) m.is in
    rw (ne_eqb (suc half) 0 (λ z. omega arith)) (rw first at a, (rw last at b, tt))

radius_small : (radius : ℤ) → within (pos 1) (pos 1000000) radius ≡ true → nat_abs radius ≤ 1000000
radius_small (pos n) h = leb-true n 1000000 (and_right (leb 1 n) (leb n 1000000) h)
radius_small (negsuc n) h = absurd (omega (arith, leb-true 1 0 h))

chord_allowed : (u v radius centre : ℤ) → nat_abs radius ≤ 1000000 → Ranked centre → Every allowed (positions_of (chord_cut u v radius centre))
unfolding chord_cut half_chord
chord_allowed u v radius centre h m = by (ltb (squared radius) (squared u + squared v))
  where
    by : (t : Bool) → Every allowed (positions_of (cond t (cut false []) (sides (half_chord u v radius) centre)))
    by true = tt
    by false = sides-allowed (half_chord u v radius) centre (omega (arith, greatest-le (nat_abs radius) (squared radius - (squared u + squared v)))) m

ranged : (u v radius centre : ℤ) → in_ranges u v radius centre ≡ true → Every allowed (positions_of (chord_cut u v radius centre))
unfolding in_ranges
ranged u v radius centre e =
    let rest = and_right (within (negsuc 999999) (pos 1000000) u) _ e in
    let more = and_right (within (negsuc 999999) (pos 1000000) v) _ rest in
    chord_allowed u v radius centre (radius_small radius (and_left (within (pos 1) (pos 1000000) radius) _ more)) (ranked centre (and_right (within (pos 1) (pos 1000000) radius) _ more))

ball_allowed : (u v radius centre : ℤ) → Every allowed (positions_of (ball_cut u v radius centre))
ball_allowed u v radius centre = by (in_ranges u v radius centre) refl
  where
    by : (t : Bool) → in_ranges u v radius centre ≡ t → Every allowed (positions_of (cond t (chord_cut u v radius centre) fault))
    by true e = ranged u v radius centre e
    by false e = tt

-- ---- all of them
pub cuts_in_range : (numbers : List ℤ) → InRange (ball_cuts numbers)
unfolding ball_cuts
cuts_in_range [] = tt
cuts_in_range (u ∷ []) = (tt, tt)
cuts_in_range (u ∷ v ∷ []) = (tt, tt)
cuts_in_range (u ∷ v ∷ radius ∷ []) = (tt, tt)
cuts_in_range (u ∷ v ∷ radius ∷ centre ∷ rest) = (ball_allowed u v radius centre, cuts_in_range rest)
