-- A ball by the ranks of its numbers: its ranges, its half chord and its two sides.
use mathlib.Core.Path.{◌≡◌, refl, sym, ap, ◌∙◌}
use Prim.Native.Nat.{ℕ, zero, suc, ◌+◌, ◌-◌, ◌*◌, ◌<◌, ◌≤◌}
use native.Mathlib.Nat.{mul-le-mul}
use native.Mathlib.Omega.{arith}
use mathlib.Core.Bool.{Bool, true, false, not, cond, ◌&&◌, false≢true}
use borrow.Author.Tests.{ltb-true, ltb-false, lt-ltb, le-ltb, leb-true, lt-leb, le-leb, eq-eqb, ne_eqb}
use lib.Dec.{ltb, leb}
use lib.IntN.{ℤ, pos, negsuc, nat_abs, sub_ℕ, ◌+ℤ◌, ◌-ℤ◌}
use lib.Signed.{lt_z, le_z}
use Rattle.std.proofs.Common.{Some}
use Rattle.cross_ranks.specs.Ranks.{unrank}
use Rattle.cross_ranks.proofs.RankLaws.{unrank_lt}
use Rattle.cross_root.specs.Root.{Root}
use Rattle.cross_root.proofs.Greatest.{is_greatest, root_within}
use Rattle.cross_cuts.specs.Keys.{cut_of}
use Rattle.cross_cuts.specs.declared.Met.TheVariants.{Never, Twice}
use Rattle.cross_balls.specs.Balls.{within, in_ranges, squared, half_chord, sides, chord_cut}
use Rattle.cross_balls.specs.Small.{Small}

-- ---- ranks compare as their numbers do
leb_not : (m n : ℕ) → leb m n ≡ not (ltb n m)
leb_not m n = by (ltb n m) refl
  where
    by : (t : Bool) → ltb n m ≡ t → leb m n ≡ not t
    by true e = lt-leb m n (ltb-true n m e)
    by false e = le-leb m n (ltb-false n m e)

le_z_not : (a b : ℤ) → le_z a b ≡ not (lt_z b a)
le_z_not (pos a) (pos b) = leb_not a b
le_z_not (pos a) (negsuc b) = refl
le_z_not (negsuc a) (pos b) = refl
le_z_not (negsuc a) (negsuc b) = leb_not b a

pub unrank-le : (a b : ℕ) → le_z (unrank a) (unrank b) ≡ leb a b
unrank-le a b = le_z_not (unrank a) (unrank b) ∙ ap not (unrank_lt b a) ∙ sym (leb_not a b)

-- ---- the ranges
pub and_left : (a b : Bool) → (a && b) ≡ true → a ≡ true
and_left true b e = refl
and_left false b e = e

pub and_right : (a b : Bool) → (a && b) ≡ true → b ≡ true
and_right true b e = e
and_right false b e = absurd (false≢true e)

module _ (rank low high : ℕ) where
  pub within_is : within (unrank low) (unrank high) (unrank rank) ≡ (leb low rank && leb rank high)
  within_is = rw (unrank-le low rank, unrank-le rank high)

  in_low : within (unrank low) (unrank high) (unrank rank) ≡ true → low ≤ rank
  in_low e = leb-true low rank (and_left (leb low rank) (leb rank high) (sym within_is ∙ e))

  in_high : within (unrank low) (unrank high) (unrank rank) ≡ true → rank ≤ high
  in_high e = leb-true rank high (and_right (leb low rank) (leb rank high) (sym within_is ∙ e))

-- the ranks of numbers in range
pub small : (u v radius centre : ℕ) (w : Bool) → w ≡ in_ranges (unrank u) (unrank v) (unrank radius) (unrank centre) → w ≡ true → Small u v radius centre
unfolding in_ranges
small u v radius centre w says so =
    let all = sym says ∙ so in
    let eu = and_left (within (unrank 2146483648) (unrank 2148483648) (unrank u)) _ all in
    let rest = and_right (within (unrank 2146483648) (unrank 2148483648) (unrank u)) _ all in
    let ev = and_left (within (unrank 2146483648) (unrank 2148483648) (unrank v)) _ rest in
    let more = and_right (within (unrank 2146483648) (unrank 2148483648) (unrank v)) _ rest in
    let er = and_left (within (unrank 2147483649) (unrank 2148483648) (unrank radius)) _ more in
    let ec = and_right (within (unrank 2147483649) (unrank 2148483648) (unrank radius)) _ more in
    record {
      u_low = in_low u 2146483648 2148483648 eu;
      u_high = in_high u 2146483648 2148483648 eu;
      v_low = in_low v 2146483648 2148483648 ev;
      v_high = in_high v 2146483648 2148483648 ev;
      radius_low = in_low radius 2147483649 2148483648 er;
      radius_high = in_high radius 2147483649 2148483648 er;
      centre_low = in_low centre 1147483648 3147483648 ec;
      centre_high = in_high centre 1147483648 3147483648 ec;
    }

-- ---- squares
size_low : (m : ℕ) → m < 2147483648 → nat_abs (unrank m) ≡ 2147483648 - m
size_low m h = rw (lt-ltb m 2147483648 h) (omega arith)

size-high : (m : ℕ) → 2147483648 ≤ m → nat_abs (unrank m) ≡ m - 2147483648
size-high m h = rw (le-ltb m 2147483648 h)

square_fits : (x : ℕ) → x ≤ 1000000 → x * x ≤ 1000000000000
square_fits x h = mul-le-mul h h

module _ (m : ℕ) (low : 2146483648 ≤ m) (high : m ≤ 2148483648) where
  pub square_low : (s : ℕ) → s ≡ 2147483648 - m → m < 2147483648 → (s * s ≡ squared (unrank m)) × (s * s ≤ 1000000000000)
  square_low s e h = let i : s ≡ nat_abs (unrank m) = e ∙ sym (size_low m h) in (ap (λ x. x * x) i, square_fits s (omega arith))

  pub square_high : (s : ℕ) → s ≡ m - 2147483648 → 2147483648 ≤ m → (s * s ≡ squared (unrank m)) × (s * s ≤ 1000000000000)
  square_high s e h = let i : s ≡ nat_abs (unrank m) = e ∙ sym (size-high m h) in (ap (λ x. x * x) i, square_fits s (omega arith))

-- ---- the two sides
sub_same : (a b c d : ℕ) → a + d ≡ c + b → sub_ℕ a b ≡ sub_ℕ c d
sub_same a b c d e = by (ltb a b) refl
  where
    by : (t : Bool) → ltb a b ≡ t → cond t (negsuc (b - suc a)) (pos (a - b)) ≡ sub_ℕ c d
    by true f =
        let h = ltb-true a b f in
        let k : b - suc a ≡ d - suc c = omega arith in
        sym (rw (lt-ltb c d (omega arith)) (ap negsuc (sym k)))
    by false f =
        let h = ltb-false a b f in
        let k : a - b ≡ c - d = omega arith in
        sym (rw (le-ltb c d (omega arith)) (ap pos (sym k)))

pub first_side : (c h : ℕ) → suc h ≤ c → unrank (c - suc h) ≡ unrank c -ℤ pos (suc h)
first_side c h l = by (ltb c 2147483648) refl
  where
    by : (t : Bool) → ltb c 2147483648 ≡ t → unrank (c - suc h) ≡ cond t (negsuc (2147483648 - suc c)) (pos (c - 2147483648)) -ℤ pos (suc h)
    by true e =
        let k = ltb-true c 2147483648 e in
        let i : 2147483648 - suc (c - suc h) ≡ suc (2147483648 - suc c + h) = omega arith in
        rw (lt-ltb (c - suc h) 2147483648 (omega arith)) (ap negsuc i)
    by false e =
        let k = ltb-false c 2147483648 e in
        sub_same (c - suc h) 2147483648 (c - 2147483648) (suc h) (omega arith)

pub last_side : (c h : ℕ) → unrank (c + h) ≡ unrank c +ℤ pos h
last_side c h = by (ltb c 2147483648) refl
  where
    by : (t : Bool) → ltb c 2147483648 ≡ t → unrank (c + h) ≡ cond t (negsuc (2147483648 - suc c)) (pos (c - 2147483648)) +ℤ pos h
    by true e =
        let k = ltb-true c 2147483648 e in
        sub_same (c + h) 2147483648 h (suc (2147483648 - suc c)) (omega arith)
    by false e =
        let k = ltb-false c 2147483648 e in
        let i : c + h - 2147483648 ≡ c - 2147483648 + h = omega arith in
        rw (le-ltb (c + h) 2147483648 (omega arith)) (ap pos i)

-- ---- the exits of `meet_chord`
module _ (u v radius centre p q s : ℕ) (few : Small u v radius centre) (ep : p ≡ squared (unrank u)) (eq : q ≡ squared (unrank v)) (es : s ≡ squared (unrank radius)) where
  pub chord_missed : s < p + q → cut_of (Some (Never false)) ≡ chord_cut (unrank u) (unrank v) (unrank radius) (unrank centre)
  unfolding chord_cut
  chord_missed h = sym (rw (← ep, ← eq, ← es, lt-ltb s (p + q) h))

  module _ (half : ℕ) (root : Root (s - (p + q)) half) (enough : p + q ≤ s) where
    within_radius : half ≤ nat_abs (unrank radius)
    within_radius = root_within (nat_abs (unrank radius)) half (s - (p + q)) (omega (arith, es)) root.below

    half_small : half ≤ 1000000
    half_small = omega (arith, within_radius, size-high radius (omega (arith, few.radius_low)), few.radius_high)

    -- the two sides of a centre c, as 64 bits hold them
    module _ {c : ℕ} (ec : c ≡ centre) where
      pub first_fits : half ≤ c
      first_fits = omega (arith, half_small, few.centre_low)

      pub last_fits : c + half < 4294967296
      last_fits = omega (arith, half_small, few.centre_high)

      pub last_long : c + half < 18446744073709551616
      last_long = omega (arith, last_fits)

    half_is : half ≡ half_chord (unrank u) (unrank v) (unrank radius)
    unfolding half_chord
    half_is = rw (← ep, ← eq, ← es) (is_greatest (nat_abs (unrank radius)) half (s - (p + q)) within_radius root.below root.above)

    chord_is : sides half (unrank centre) ≡ chord_cut (unrank u) (unrank v) (unrank radius) (unrank centre)
    unfolding chord_cut
    chord_is = sym (rw (← half_is, ← ep, ← eq, ← es, le-ltb s (p + q) enough))

    pub chord_none : half ≡ 0 → cut_of (Some (Never false)) ≡ chord_cut (unrank u) (unrank v) (unrank radius) (unrank centre)
    chord_none z = sym (rw (eq-eqb half 0 z)) ∙ chord_is

    pub chord_two : (a b c : ℕ) → c ≡ centre → a ≡ c - half → b ≡ c + half → (half ≡ 0 → ⊥) → cut_of (Some (Twice a b)) ≡ chord_cut (unrank u) (unrank v) (unrank radius) (unrank centre)
    chord_two a b c ec ea eb z = two half refl z ∙ chord_is
      where
        l : half ≤ centre
        l = omega (arith, half_small, few.centre_low)

        two : (h : ℕ) → half ≡ h → (half ≡ 0 → ⊥) → cut_of (Some (Twice a b)) ≡ sides half (unrank centre)
        two zero e n = absurd (n e)
        two (suc h) e n =
            let i : a ≡ centre - suc h = omega arith in
            let j : b ≡ centre + suc h = omega arith in
            rw (i, j, first_side centre h (omega (arith, l)), last_side centre (suc h), ne_eqb half 0 n) (rw e)
