-- A sum, a quotient or a product of what reaches farther reaches farther.
use mathlib.Core.Path.{◌≡◌, refl, sym, ap, ◌∙◌, subst}
use mathlib.Core.Bool.{Bool, true, false, cond, not, ◌&&◌, ◌||◌, beq, true≢false, and-eq-true_iff}
use Prim.Native.Nat.{ℕ, zero, suc, ◌+◌, ◌-◌, ◌*◌, ◌^◌, ◌<◌, ◌≤◌}
use native.Mathlib.Nat.{le_trans, mul-le-mul_right, mul-pos, mul-mul-mul_comm, mul_comm, add-mul}
use native.Mathlib.Omega.{arith}
use lib.Dec.{T, ltb, leb, eqb}
use borrow.Author.Tests.{ltb-true, eqb-true, leb-true, le-leb, ne_eqb}
use lib.IntN.{ℤ, pos}
use lib.Ieee.{Float, Format, nan, inf, fin, up, down, binary64, le, lt, eq, round, units, odd, neg, add, sub, sum, mul, div, unlike, low, emax, prec, of_int, level}
use lib.Ieee.Fits.{up_pos, down_pos}
use lib.Ieee.Order.{round_mono}
use lib.Ieee.Nearest.{closest, closest_mono}
use mathlib.Core.Option.{none, some}
use mathlib.Core.Logic.{◌⊎◌, inl, inr, ⊎_elim}
use Rattle.cross_positions.specs.Positions.{thousand, signed, allowed, nearest_whole, distance}
use Rattle.cross_shapes.specs.Shapes.{finite, is_zero}
use Rattle.cross_quick.specs.Given.{given, is_there}
use Rattle.cross_reach.specs.Reach.{Reaches, AllGiven}

-- ---- a number without its sign
mag : Float → Float
mag nan = nan
mag (inf s) = inf false
mag (fin s m e) = fin false m e

sign_of : Float → Bool
sign_of nan = false
sign_of (inf s) = s
sign_of (fin s m e) = s

mag_cond : (t : Bool) (x y : Float) → mag (cond t x y) ≡ cond t (mag x) (mag y)
mag_cond true x y = refl
mag_cond false x y = refl

mag_odd : (d : ℕ) (s : Bool) (q k l : ℕ) → mag (odd d s q k l) ≡ odd d false q k l
unfolding mag odd
mag_odd d s zero k l = refl
mag_odd d s (suc q) k l = refl

mag_units : (f : Format) (s : Bool) (q k : ℕ) → mag (units f s q k) ≡ units f false q k
unfolding mag units
mag_units f s q k =
    mag_cond (ltb (q * 2 ^ k) (2 ^ (low f + suc (emax f)))) (odd (suc (prec f)) s q k (low f)) (inf s)
    ∙ ap (λ (z : Float). cond (ltb (q * 2 ^ k) (2 ^ (low f + suc (emax f)))) z (inf false)) (mag_odd (suc (prec f)) s q k (low f))

mag_round : (f : Format) (s : Bool) (a b : ℕ) → mag (round f s a b) ≡ round f false a b
unfolding round
mag_round f s a b = mag_units f s _ _

sign_mag : (x : Float) → sign_of (mag x) ≡ false
unfolding mag sign_of
sign_mag nan = refl
sign_mag (inf s) = refl
sign_mag (fin s m e) = refl

reaches_mag : (y x : Float) → Reaches (mag y) (mag x) → Reaches y x
unfolding mag
reaches_mag nan x h = tt
reaches_mag (inf s) x h = tt
reaches_mag (fin t n d) nan h = h
reaches_mag (fin t n d) (inf s) h = h
reaches_mag (fin t n d) (fin s m e) h = h

-- ---- in order, where no sign is set
below_level : (a b : ℕ) → T (ltb a b || (eqb a b && (true || eqb a 0))) → a ≤ b
below_level a b h = by (ltb a b) refl (eqb a b) refl h
  where
    by : (s : Bool) → ltb a b ≡ s → (t : Bool) → eqb a b ≡ t → T (s || (t && (true || eqb a 0))) → a ≤ b
    by true e t f h = omega (arith, ltb-true a b e)
    by false e true f h = omega (arith, eqb-true a b f)
    by false e false f h = absurd h

reaches_le : (x y : Float) → sign_of x ≡ false → sign_of y ≡ false → T (le x y) → Reaches y x
unfolding sign_of le lt eq
reaches_le x nan p q h = tt
reaches_le x (inf s) p q h = tt
reaches_le nan (fin t n d) p q h = h
reaches_le (inf true) (fin t n d) p q h = absurd (true≢false p)
reaches_le (inf false) (fin t n d) p q h = h
reaches_le (fin true m e) (fin t n d) p q h = absurd (true≢false p)
reaches_le (fin false m e) (fin true n d) p q h = absurd (true≢false q)
reaches_le (fin false m e) (fin false n d) p q h = below_level (m * up e * down d) (n * up d * down e) h

round_reaches : (f : Format) (s t : Bool) (a b c d : ℕ) → 0 < b → 0 < d → a * d ≤ c * b → Reaches (round f t c d) (round f s a b)
round_reaches f s t a b c d p q h =
    reaches_mag (round f t c d) (round f s a b)
    (rw (mag_round f t c d, mag_round f s a b)
    (reaches_le (round f false a b) (round f false c d) (subst (λ (z : Float). sign_of z ≡ false) (mag_round f s a b) (sign_mag (round f s a b))) (subst (λ (z : Float). sign_of z ≡ false) (mag_round f t c d) (sign_mag (round f t c d)))
    (round_mono f a b c d p q h)))

-- ---- a sum: of two terms of which each is no farther from zero, whatever the signs
sum_reaches : (f : Format) (s t : Bool) (a b c : ℕ) (r : Bool) (p q : ℕ) → 0 < c → 0 < q → (a + b) * q ≤ p * c → Reaches (round f r p q) (sum f s a t b c)
unfolding sum
sum_reaches f s t a b c r p q C Q h = go (beq s t) (ltb a b) refl
  where
    less : (k : ℕ) → k ≤ a + b → k * q ≤ p * c
    less k l = le_trans (mul-le-mul_right q l) h

    go : (u v : Bool) → ltb a b ≡ v → Reaches (round f r p q) (cond u (round f s (a + b) c) (cond v (round f t (b - a) c) (round f (s && ltb b a) (a - b) c)))
    go true v e = round_reaches f s r (a + b) c p q C Q h
    go false true e = round_reaches f t r (b - a) c p q C Q (less (b - a) (omega arith))
    go false false e = round_reaches f (s && ltb b a) r (a - b) c p q C Q (less (a - b) (omega arith))

-- ---- a quotient and a product
cross : (a k b l c d : ℕ) → a * b ≤ c * d → a * k * (b * l) ≤ c * k * (d * l)
cross a k b l c d h =
    let e : a * k * (b * l) ≡ a * b * (k * l) = mul-mul-mul_comm a k b l in
    let g : c * k * (d * l) ≡ c * d * (k * l) = mul-mul-mul_comm c k d l in
    subst (λ (x : ℕ). x ≤ c * k * (d * l)) (sym e) (subst (λ (x : ℕ). a * b * (k * l) ≤ x) (sym g) (mul-le-mul_right (k * l) h))

pos2 : (a b c : ℕ) → 0 < a → 0 < b → 0 < c → 0 < a * b * c
pos2 a b c p q r = mul-pos (mul-pos p q) r

nz : (n : ℕ) → eqb (suc n) 0 ≡ false
nz n = ne_eqb (suc n) 0 (λ e. omega arith)

div_reaches : (f : Format) (y x : Float) (t : Bool) (n : ℕ) (d : ℤ) → Reaches y x → Reaches (div f y (fin t (suc n) d)) (div f x (fin t (suc n) d))
unfolding div
div_reaches f nan x t n d h = tt
div_reaches f (inf s) x t n d h = tt
div_reaches f (fin u m e) nan t n d h = absurd h
div_reaches f (fin u m e) (inf s) t n d h = absurd h
div_reaches f (fin u m e) (fin s k g) t n d h =
    rw (nz n)
    (round_reaches f (unlike s t) (unlike u t) (k * up g * down d) (suc n * up d * down g) (m * up e * down d) (suc n * up d * down e)
    (pos2 (suc n) (up d) (down g) (omega arith) (up_pos d) (down_pos g)) (pos2 (suc n) (up d) (down e) (omega arith) (up_pos d) (down_pos e))
    (subst (λ (z : ℕ). k * up g * down d * z ≤ m * up e * down d * (suc n * up d * down g)) (mul_comm (down e) (suc n * up d))
    (subst (λ (z : ℕ). k * up g * down d * (down e * (suc n * up d)) ≤ m * up e * down d * z) (mul_comm (down g) (suc n * up d)) (cross (k * up g) (down d) (down e) (suc n * up d) (m * up e) (down g) h))))

mul_reaches : (f : Format) (y x : Float) (t : Bool) (n : ℕ) (d : ℤ) → Reaches y x → Reaches (mul f y (fin t (suc n) d)) (mul f x (fin t (suc n) d))
unfolding mul
mul_reaches f nan x t n d h = tt
mul_reaches f (inf s) x t n d h = rw (nz n) tt
mul_reaches f (fin u m e) nan t n d h = absurd h
mul_reaches f (fin u m e) (inf s) t n d h = absurd h
mul_reaches f (fin u m e) (fin s k g) t n d h =
    round_reaches f (unlike s t) (unlike u t) (k * up g * (suc n * up d)) (down g * down d) (m * up e * (suc n * up d)) (down e * down d)
    (mul-pos (down_pos g) (down_pos d)) (mul-pos (down_pos e) (down_pos d)) (cross (k * up g) (suc n * up d) (down e) (down d) (m * up e) (down g) h)

sum_whole : (f : Format) (s t : Bool) (a b c : ℕ) → beq s t ≡ true → sum f s a t b c ≡ round f s (a + b) c
unfolding sum
sum_whole f s t a b c e = rw e

-- ---- the difference from the origin: the drawing's reach less the origin, or with it, whichever is farther
both_terms : (a a' x b b' k : ℕ) → a * b' ≤ a' * b → (a * k + x * b) * (b' * k) ≤ (a' * k + x * b') * (b * k)
both_terms a a' x b b' k h =
    let p : a * k * (b' * k) ≤ a' * k * (b * k) = cross a k b' k a' b h in
    let q : x * b * (b' * k) ≡ x * b' * (b * k) = mul-mul-mul_comm x b b' k in
    subst (λ (z : ℕ). z ≤ (a' * k + x * b') * (b * k)) (sym (add-mul (a * k) (x * b) (b' * k)))
    (subst (λ (z : ℕ). a * k * (b' * k) + x * b * (b' * k) ≤ z) (sym (add-mul (a' * k) (x * b') (b * k))) (omega arith))

module _ (f : Format) (s : Bool) (m : ℕ) (e : ℤ) (t : Bool) (n : ℕ) (d : ℤ) (u : Bool) (k : ℕ) (g : ℤ) (h : m * up e * down d ≤ n * up d * down e) where
  term : (m * up e * down g + k * up g * down e) * (down d * down g) ≤ (n * up d * down g + k * up g * down d) * (down e * down g)
  term = both_terms (m * up e) (n * up d) (k * up g) (down e) (down d) (down g) h

  far_reaches : (v : Bool) → beq t (not v) ≡ true → Reaches (sub f (fin t n d) (fin v k g)) (sub f (fin s m e) (fin u k g))
  unfolding sub add neg
  far_reaches v b =
      subst (λ (y : Float). Reaches y (sum f s (m * up e * down g) (not u) (k * up g * down e) (down e * down g))) (sym (sum_whole f t (not v) (n * up d * down g) (k * up g * down d) (down d * down g) b))
      (sum_reaches f s (not u) (m * up e * down g) (k * up g * down e) (down e * down g) t (n * up d * down g + k * up g * down d) (down d * down g) (mul-pos (down_pos e) (down_pos g)) (mul-pos (down_pos d) (down_pos g)) term)

-- ---- what is given
allowed_small : (s : Bool) (k : ℕ) → k ≤ 2147483646 → allowed (signed s k) ≡ true
allowed_small false k h = le-leb k 2147483646 h
allowed_small true zero h = refl
allowed_small true (suc k) h = rw (le-leb k 2147483646 (omega arith))

near_given : (s : Bool) (m : ℕ) (e : ℤ) → closest (m * up e) (down e) ≤ 2147483646 → given (fin s m e) ≡ true
unfolding given nearest_whole
near_given s m e h = rw (allowed_small s (closest (m * up e) (down e)) h)

given_near : (m : ℕ) (e : ℤ) → given (fin false m e) ≡ true → closest (m * up e) (down e) ≤ 2147483646
unfolding given nearest_whole
given_near m e h = by (leb (closest (m * up e) (down e)) 2147483646) refl h
  where
    by : (t : Bool) → leb (closest (m * up e) (down e)) 2147483646 ≡ t → is_there (cond t (some (pos (closest (m * up e) (down e)))) none) ≡ true → closest (m * up e) (down e) ≤ 2147483646
    by true f h = leb-true (closest (m * up e) (down e)) 2147483646 f
    by false f h = absurd (true≢false (sym h))

either_near : (s : Bool) (m : ℕ) (e : ℤ) → given (fin s m e) ≡ true → given (neg (fin s m e)) ≡ true → closest (m * up e) (down e) ≤ 2147483646
unfolding neg
either_near false m e g h = given_near m e g
either_near true m e g h = given_near m e h

reached_given : (y x : Float) → Reaches y x → given y ≡ true → given (neg y) ≡ true → given x ≡ true
unfolding given nearest_whole
reached_given nan x r g h = absurd (true≢false (sym g))
reached_given (inf s) x r g h = absurd (true≢false (sym g))
reached_given (fin t n d) nan r g h = absurd r
reached_given (fin t n d) (inf s) r g h = absurd r
reached_given (fin t n d) (fin s m e) r g h = near_given s m e (le_trans (closest_mono (m * up e) (down e) (n * up d) (down d) (down_pos e) (down_pos d) r) (either_near t n d g h))

-- ---- every face that the reach covers
thousand_fin : thousand ≡ fin false 125 (pos 3)
unfolding of_int round
thousand_fin = refl

level_zero : (t : Bool) (a b : ℕ) → a ≡ 0 → b ≡ 0 → level t a false b ≡ true
level_zero true a b e f = rw (e, f)
level_zero false a b e f = rw (e, f)

zero_is : (t : Bool) (d : ℤ) → is_zero (fin t zero d) ≡ true
unfolding is_zero eq
zero_is t d = level_zero t (0 * up d * down (pos 0)) (0 * up (pos 0) * down d) (omega arith) (omega arith)

far : (y x c : Float) → finite c ≡ true → is_zero c ≡ false → Reaches y x → Reaches (mul binary64 (div binary64 y c) thousand) (mul binary64 (div binary64 x c) thousand)
unfolding finite
far y x nan h z r = absurd (true≢false (sym h))
far y x (inf s) h z r = absurd (true≢false (sym h))
far y x (fin t zero d) h z r = absurd (true≢false (sym (zero_is t d) ∙ z))
far y x (fin t (suc n) d) h z r = rw (thousand_fin) (mul_reaches binary64 (div binary64 y (fin t (suc n) d)) (div binary64 x (fin t (suc n) d)) false 124 (pos 3) (div_reaches binary64 y x t n d r))

pick : (t u : Bool) → (beq t (not u) ≡ true) ⊎ (beq t (not (not u)) ≡ true)
pick true true = inr refl
pick true false = inl refl
pick false true = inl refl
pick false false = inr refl

-- on either side
abbrev Sides : Float → Bool
Sides x = given x && given (neg x)

reach_fin : (t : Bool) (n : ℕ) (d : ℤ) (u : Bool) (k : ℕ) (g : ℤ) (s : Bool) (m : ℕ) (e : ℤ) (c : Float) → finite c ≡ true → is_zero c ≡ false → m * up e * down d ≤ n * up d * down e
    → Sides (distance (fin t n d) (fin u k g) c) ≡ true → Sides (distance (fin t n d) (fin (not u) k g) c) ≡ true → given (distance (fin s m e) (fin u k g) c) ≡ true
reach_fin t n d u k g s m e c fc zc h less more = ⊎_elim (by u less) (by (not u) more) (pick t u)
  where
    by : (v : Bool) → Sides (distance (fin t n d) (fin v k g) c) ≡ true → beq t (not v) ≡ true → given (distance (fin s m e) (fin u k g) c) ≡ true
    by v p b =
        let q = (and-eq-true_iff (given (distance (fin t n d) (fin v k g) c)) (given (neg (distance (fin t n d) (fin v k g) c)))).0 p in
        reached_given (distance (fin t n d) (fin v k g) c) (distance (fin s m e) (fin u k g) c)
        (far (sub binary64 (fin t n d) (fin v k g)) (sub binary64 (fin s m e) (fin u k g)) c fc zc (far_reaches binary64 s m e t n d u k g h v b)) q.0 q.1

all_reached : (reach origin c : Float) → finite reach ≡ true → finite origin ≡ true → finite c ≡ true → is_zero c ≡ false → Sides (distance reach origin c) ≡ true → Sides (distance reach (neg origin) c) ≡ true → (face : Float)
    → finite face ≡ true → Reaches reach face → given (distance face origin c) ≡ true
unfolding finite neg
all_reached nan o c f g fc zc p q x fx r = absurd (true≢false (sym f))
all_reached (inf s) o c f g fc zc p q x fx r = absurd (true≢false (sym f))
all_reached (fin t n d) nan c f g fc zc p q x fx r = absurd (true≢false (sym g))
all_reached (fin t n d) (inf s) c f g fc zc p q x fx r = absurd (true≢false (sym g))
all_reached (fin t n d) (fin u k b) c f g fc zc p q nan fx r = absurd (true≢false (sym fx))
all_reached (fin t n d) (fin u k b) c f g fc zc p q (inf s) fx r = absurd (true≢false (sym fx))
all_reached (fin t n d) (fin u k b) c f g fc zc p q (fin s m e) fx r = reach_fin t n d u k b s m e c fc zc r p q

-- ---- the exits

pub sides_given : (reach origin c less more : Float) (w x : Bool) → finite reach ≡ true → finite origin ≡ true → finite c ≡ true → is_zero c ≡ false → less ≡ distance reach origin c → more ≡ distance reach (neg origin) c
    → w ≡ (given less && given (neg less)) → x ≡ (given more && given (neg more)) → (w && x) ≡ true → AllGiven reach origin c
sides_given reach origin c less more w x fr fo fc zc is-less is-more ew ex h =
    let a = (and-eq-true_iff w x).0 h in
    record { each = λ z. all_reached reach origin c fr fo fc zc (ap Sides (sym is-less) ∙ sym ew ∙ a.0) (ap Sides (sym is-more) ∙ sym ex ∙ a.1) }

-- what a test says that answered so
pub told : (answer test way : Bool) → answer ≡ test → answer ≡ way → test ≡ way
told answer test way e h = sym e ∙ h
