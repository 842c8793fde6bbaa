-- What one box's two faces say, and one round of the loop over the boxes.
use mathlib.Core.Path.{◌≡◌, refl, sym, ap, ◌∙◌, subst}
use mathlib.Core.Bool.{Bool, true, false, not, ◌&&◌, beq, or-true, true≢false}
use mathlib.Core.List.{List}
use mathlib.Core.Logic.{◌≢◌}
use mathlib.Core.Option.{Option, none, some}
use Prim.Native.Nat.{ℕ, zero, suc, ◌*◌, ◌+◌, ◌<◌, ◌≤◌, min, max}
use native.Mathlib.Omega.{arith}
use lib.Dec.{T, eqb, eqb-suc-zero}
use borrow.Author.Tests.{eqb-true, eqb-false}
use lib.IntN.{ℤ, pos}
use lib.ListN.{length, get_or, set, length-set}
use lib.Seq.{get_or-set_same, get_or-set_other}
use lib.Ieee.{Float, nan, inf, fin, up, down, lt, eq, binary64, fits, is_nan, to_bits, of_bits}
use lib.Ieee.Bits.{of_bits-to_bits}
use Rattle.cross_ranks.specs.Ranks.{unrank}
use Rattle.cross_positions.specs.Positions.{in_range, nearest_whole, distance, position}
use Rattle.cross_positions.proofs.Numbers.{distance-number}
use Rattle.cross_quick.specs.Given.{given, is_there}
use Rattle.cross_quick.proofs.GivenLaws.{found_rank}
use Rattle.cross_shapes.specs.Shapes.{finite, is_zero, lesser, greater, wrong, from, between, axis_range}
use Rattle.cross_shapes.proofs.BoxLaws.{lesser_rank, greater_rank}
use Rattle.cross_axis.specs.Axes.{Codes, Beside, Filled, Stepped}
use Rattle.cross_axis.specs.declared.Along.{Along}
use Rattle.cross_axis.specs.declared.Span.{Span}

-- ---- one box
module _ (low high : Float) (along : Along) where
  pub level_free : is_zero along.component ≡ true → (lt low along.origin && lt along.origin high) ≡ true
      → axis_range low high along.origin along.component ≢ wrong → Codes (axis_range low high along.origin along.component) 0 4294967295
  unfolding axis_range
  level_free z h n = rw (z, h) (refl, refl)

  pub level_missed : is_zero along.component ≡ true → (lt low along.origin && lt along.origin high) ≡ false
      → axis_range low high along.origin along.component ≢ wrong → Codes (axis_range low high along.origin along.component) 0 0
  unfolding axis_range
  level_missed z h n = rw (z, h) (omega arith)

  -- where no position is one that may not be given, both may
  both_there : (p q : Option ℤ) → between p q ≢ wrong → (p ≢ none) × (q ≢ none)
  both_there none q n = absurd (n refl)
  both_there (some a) none n = absurd (n refl)
  both_there (some a) (some b) n = (λ e. true≢false (ap is_there e), λ e. true≢false (ap is_there e))

  slanted : is_zero along.component ≡ false → axis_range low high along.origin along.component ≢ wrong
      → between (position low along.origin along.component) (position high along.origin along.component) ≢ wrong
  unfolding axis_range
  slanted z n = rw z at n

  module _ (u v l g : ℕ) (z : is_zero along.component ≡ false)
      (at_low : position low along.origin along.component ≢ none → position low along.origin along.component ≡ some (unrank u))
      (at_high : position high along.origin along.component ≢ none → position high along.origin along.component ≡ some (unrank v))
      (bu : u ≤ 4294967295) (bv : v ≤ 4294967295) (el : l ≡ min u v) (eg : g ≡ max u v) (n : axis_range low high along.origin along.component ≢ wrong) where
    there : (position low along.origin along.component ≢ none) × (position high along.origin along.component ≢ none)
    there = both_there (position low along.origin along.component) (position high along.origin along.component) (slanted z n)

    ranged : axis_range low high along.origin along.component ≡ from (lesser (unrank u) (unrank v)) (greater (unrank u) (unrank v))
    unfolding axis_range
    ranged = rw z (ap (λ (o : Option ℤ). between o (position high along.origin along.component)) (at_low there.0) ∙ ap (λ (o : Option ℤ). between (some (unrank u)) o) (at_high there.1))

    pub slant_both : Codes (axis_range low high along.origin along.component) l g
    slant_both = rw ranged (ap unrank el ∙ lesser_rank u v, (ap unrank eg ∙ greater_rank u v, omega (arith, bu, bv, eg)))

-- ---- one face
not_zero : (s : Bool) (m : ℕ) (e : ℤ) → is_zero (fin s m e) ≡ false → eqb m 0 ≡ false
unfolding is_zero eq
not_zero s zero e h =
    let x : zero * up e * 1 ≡ 0 = omega arith in
    let y : zero * up (pos zero) * down e ≡ 0 = omega arith in
    absurd (true≢false (sym (rw (x, y, or-true (beq s false))) ∙ h))
not_zero s (suc m) e h = eqb-suc-zero m

-- its distance is a number
pub far_number : (face origin component p : Float) → finite face ≡ true → finite origin ≡ true → finite component ≡ true → is_zero component ≡ false → p ≡ distance face origin component → is_nan p ≡ false
unfolding finite
far_number nan origin component p a b c z e = absurd (true≢false (sym a))
far_number (inf s) origin component p a b c z e = absurd (true≢false (sym a))
far_number (fin s m f) nan component p a b c z e = absurd (true≢false (sym b))
far_number (fin s m f) (inf t) component p a b c z e = absurd (true≢false (sym b))
far_number (fin s m f) (fin t n g) nan p a b c z e = absurd (true≢false (sym c))
far_number (fin s m f) (fin t n g) (inf u) p a b c z e = absurd (true≢false (sym c))
far_number (fin s m f) (fin t n g) (fin u k h) p a b c z e = ap is_nan e ∙ distance-number s m f t n g u k h (not_zero u k h z)

pub face_rank : (face : Float) (along : Along) (p : Float) (u : ℕ) → p ≡ distance face along.origin along.component → (given p ≡ true → some (unrank u) ≡ nearest_whole p)
    → position face along.origin along.component ≢ none → position face along.origin along.component ≡ some (unrank u)
unfolding given
face_rank face along p u e m n =
    let g : given p ≡ true = ap (λ (x : Float). is_there (in_range (nearest_whole x))) e ∙ there (position face along.origin along.component) n in
    ap (λ (x : Float). in_range (nearest_whole x)) (sym e) ∙ sym (found_rank p u refl g (m g))
  where
    there : (p : Option ℤ) → p ≢ none → is_there p ≡ true
    there none n = absurd (n refl)
    there (some z) n = refl

-- ---- one box after another
pub beside-starts : {here there : ℕ} {old : List ℕ} → Beside here there old old
beside-starts = record { sized = refl; below = λ j h. refl; above = λ j h. refl }

beside-on : {here : ℕ} (k : ℕ) {old new : List ℕ} (v : ℕ) → here ≤ k → Beside here k old new → Beside here (k + 1) old (set new k v)
beside-on k {old} {new} v past b = record {
  sized = length-set new k v ∙ b.sized;
  below = λ j l.
      let d : j ≢ k = λ e. omega arith in
      get_or-set_other new k j v 0 d ∙ b.below j l;
  above = λ j l.
      let d : j ≢ k = λ e. omega arith in
      let m : k ≤ j = omega arith in
      get_or-set_other new k j v 0 d ∙ b.above j m;
}

module _ {Gives : Float → Float → Span → Type 0} {lows highs : List Float} {here : ℕ} {old-lessers old-greaters : List ℕ} where
  pub stepping_starts : Stepped Gives lows highs here here old-lessers old-greaters old-lessers old-greaters
  stepping_starts = record { lessers_beside = beside-starts; greaters_beside = beside-starts; each = λ k h l. absurd (omega arith) }

  module _ {lessers greaters : List ℕ} (k : ℕ) (span : Span) (past : here ≤ k) (inside : k < 768) (long-lessers : length lessers ≡ 1024) (long-greaters : length greaters ≡ 1024)
      (before : Stepped Gives lows highs here k old-lessers old-greaters lessers greaters) (gives : Gives (get_or lows k nan) (get_or highs k nan) span) where
    abbrev At : ℕ → Type 0
    At j = Gives (get_or lows j nan) (get_or highs j nan) (record { lesser = get_or (set lessers k span.lesser) j 0; greater = get_or (set greaters k span.greater) j 0 })

    each_now : (j : ℕ) → here ≤ j → j < k + 1 → At j
    each_now j low less = go (eqb j k) refl
      where
        go : (t : Bool) → eqb j k ≡ t → At j
        go true e =
            let s : k ≡ j = sym (eqb-true j k e) in
            let m : k < length lessers = omega (arith, long-lessers) in
            let n : k < length greaters = omega (arith, long-greaters) in
            subst At s (rw (get_or-set_same lessers k span.lesser 0 m, get_or-set_same greaters k span.greater 0 n) gives)
        go false e =
            let d : j ≢ k = eqb-false j k e in
            let m : j < k = omega (arith, d) in
            rw (get_or-set_other lessers k j span.lesser 0 d, get_or-set_other greaters k j span.greater 0 d) (before.each j low m)

    pub stepping_on : Stepped Gives lows highs here (k + 1) old-lessers old-greaters (set lessers k span.lesser) (set greaters k span.greater)
    stepping_on = record {
      lessers_beside = beside-on k span.lesser past before.lessers_beside;
      greaters_beside = beside-on k span.greater past before.greaters_beside;
      each = each_now;
    }

  pub stepping_ends : {lessers greaters : List ℕ} (k there : ℕ) → there ≤ k → k ≤ there → Stepped Gives lows highs here k old-lessers old-greaters lessers greaters → Stepped Gives lows highs here there old-lessers old-greaters lessers greaters
  stepping_ends {lessers} {greaters} k there h l at = let e : k ≡ there = omega arith in subst (λ (j : ℕ). Stepped Gives lows highs here j old-lessers old-greaters lessers greaters) e at

-- where the step says what the axis does, the boxes are filled
pub stepped_filled : {Gives : Float → Float → Span → Type 0} {lows highs : List Float} {here there : ℕ} {old-lessers old-greaters lessers greaters : List ℕ} (along : Along)
    → ((low high : Float) (span : Span) → Gives low high span → axis_range low high along.origin along.component ≢ wrong → Codes (axis_range low high along.origin along.component) span.lesser span.greater)
    → Stepped Gives lows highs here there old-lessers old-greaters lessers greaters → Filled lows highs here there along old-lessers old-greaters lessers greaters
stepped_filled along says at = record {
  lessers_beside = at.lessers_beside;
  greaters_beside = at.greaters_beside;
  said = record { right = λ k low less. says _ _ _ (at.each k low less) };
}

-- ---- zero or not
pub zero_known : (x : Float) (w t : Bool) → w ≡ is_zero x → w ≡ t → is_zero x ≡ t
zero_known x w t e h = sym e ∙ h

-- ---- kept
pub no_nan : (x : Float) → finite x ≡ true → T (not (is_nan x))
unfolding finite is_nan
no_nan nan e = absurd (true≢false (sym e))
no_nan (inf s) e = absurd (true≢false (sym e))
no_nan (fin s m e) h = tt

told : (b : Bool) → b ≡ true → T b
told true e = tt
told false e = absurd (true≢false (sym e))

pub same_number : (x y : Float) → fits binary64 x ≡ true → fits binary64 y ≡ true → eqb (to_bits binary64 x) (to_bits binary64 y) ≡ true → x ≡ y
same_number x y f g e = sym (of_bits-to_bits binary64 x (told (fits binary64 x) f)) ∙ ap (of_bits binary64) (eqb-true (to_bits binary64 x) (to_bits binary64 y) e) ∙ of_bits-to_bits binary64 y (told (fits binary64 y) g)
