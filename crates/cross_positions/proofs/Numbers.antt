-- Which sums, products and quotients are numbers: rounding gives one, and no operation here is on two infinities or on two zeros.
use Prim.Native.Nat.{ℕ, zero, suc, ◌+◌, ◌-◌, ◌*◌, ◌^◌}
use mathlib.Core.Path.{◌≡◌, refl, ap, ◌∙◌}
use mathlib.Core.Bool.{Bool, true, false, not, ◌&&◌, beq, cond, true≢false}
use lib.Dec.{ltb, eqb}
use lib.IntN.{ℤ, pos}
use lib.Ieee.{Float, nan, inf, fin, Format, binary64, prec, low, emax, up, down, unlike, odd, units, round, sum, neg, add, sub, mul, div, of_int, is_nan}
use Rattle.cross_positions.specs.Positions.{thousand, distance}

odd_number : (d : ℕ) (s : Bool) (q k l : ℕ) → is_nan (odd d s q k l) ≡ false
unfolding odd is_nan
odd_number d s zero k l = refl
odd_number d s (suc q) k l = refl

either_number : (t s : Bool) (x : Float) → is_nan x ≡ false → is_nan (cond t x (inf s)) ≡ false
unfolding is_nan
either_number true s x h = h
either_number false s x h = refl

units_number : (f : Format) (s : Bool) (q k : ℕ) → is_nan (units f s q k) ≡ false
unfolding units
units_number f s q k = either_number (ltb (q * 2 ^ k) (2 ^ (low f + suc (emax f)))) s (odd (suc (prec f)) s q k (low f)) (odd_number (suc (prec f)) s q k (low f))

round_number : (f : Format) (s : Bool) (n d : ℕ) → is_nan (round f s n d) ≡ false
unfolding round
round_number f s n d = units_number f s _ _

choice_number : (t : Bool) (x y : Float) → is_nan x ≡ false → is_nan y ≡ false → is_nan (cond t x y) ≡ false
choice_number true x y h k = h
choice_number false x y h k = k

sum_number : (s : Bool) (a : ℕ) (t : Bool) (b c : ℕ) → is_nan (sum binary64 s a t b c) ≡ false
unfolding sum
sum_number s a t b c =
    choice_number (beq s t) (round binary64 s (a + b) c) (cond (ltb a b) (round binary64 t (b - a) c) (round binary64 (s && ltb b a) (a - b) c)) (round_number binary64 s (a + b) c)
    (choice_number (ltb a b) (round binary64 t (b - a) c) (round binary64 (s && ltb b a) (a - b) c) (round_number binary64 t (b - a) c) (round_number binary64 (s && ltb b a) (a - b) c))

pub add_number : (x : Float) → is_nan x ≡ false → (t : Bool) (n : ℕ) (d : ℤ) → is_nan (add binary64 x (fin t n d)) ≡ false
unfolding add is_nan
add_number nan h t n d = absurd (true≢false h)
add_number (inf s) h t n d = refl
add_number (fin s m e) h t n d = sum_number s (m * up e * down d) t (n * up d * down e) (down e * down d)

sub_number : (s : Bool) (m : ℕ) (e : ℤ) (t : Bool) (n : ℕ) (d : ℤ) → is_nan (sub binary64 (fin s m e) (fin t n d)) ≡ false
unfolding sub neg is_nan
sub_number s m e t n d = add_number (fin s m e) refl (not t) n d

div_number : (x : Float) → is_nan x ≡ false → (t : Bool) (n : ℕ) (d : ℤ) → eqb n 0 ≡ false → is_nan (div binary64 x (fin t n d)) ≡ false
unfolding div is_nan
div_number nan h t n d z = absurd (true≢false h)
div_number (inf s) h t n d z = refl
div_number (fin s m e) h t n d z = rw z (round_number binary64 (unlike s t) (m * up e * down d) (n * up d * down e))

mul_number : (x : Float) → is_nan x ≡ false → (t : Bool) (n : ℕ) (d : ℤ) → eqb n 0 ≡ false → is_nan (mul binary64 x (fin t n d)) ≡ false
unfolding mul is_nan
mul_number nan h t n d z = absurd (true≢false h)
mul_number (inf s) h t n d z = rw z
mul_number (fin s m e) h t n d z = round_number binary64 (unlike s t) (m * up e * (n * up d)) (down e * down d)

thousand_is : thousand ≡ fin false 125 (pos 3)
unfolding of_int
thousand_is = refl

-- a distance to a finite face from a finite origin, along a finite component that is not zero
pub distance-number : (s : Bool) (m : ℕ) (e : ℤ) (t : Bool) (n : ℕ) (d : ℤ) (u : Bool) (k : ℕ) (c : ℤ) → eqb k 0 ≡ false → is_nan (distance (fin s m e) (fin t n d) (fin u k c)) ≡ false
distance-number s m e t n d u k c z =
    let at = div binary64 (sub binary64 (fin s m e) (fin t n d)) (fin u k c) in
    ap (λ (x : Float). is_nan (mul binary64 at x)) thousand_is ∙ mul_number at (div_number (sub binary64 (fin s m e) (fin t n d)) (sub_number s m e t n d) u k c z) false 125 (pos 3) refl
