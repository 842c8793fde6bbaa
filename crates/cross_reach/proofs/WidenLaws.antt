-- The reach grows face by face.
use Prim.Native.Nat.{◌*◌}
use native.Mathlib.Nat.{le_refl, le_of_lt}
use mathlib.Core.Path.{◌≡◌, refl, sym}
use mathlib.Core.Bool.{true, false, true≢false}
use borrow.Author.Tests.{ltb-true, ltb-false}
use lib.Ieee.{Float, nan, inf, fin, up, down, lt, neg}
use lib.Ieee.Fits.{down_pos}
use lib.Ieee.Positive.{through}
use Rattle.cross_shapes.specs.Shapes.{finite}
use Rattle.cross_reach.specs.Reach.{Reaches, Plain, Wider}

-- what is above a plain number is plain, and reaches what it reached
above_plain : (r y : Float) → Plain r → lt r y ≡ true → Plain y
unfolding lt
above_plain nan y p h = absurd p
above_plain (inf true) y p h = absurd (true≢false p)
above_plain (inf false) nan p h = absurd (true≢false (sym h))
above_plain (inf false) (inf t) p h = absurd (true≢false (sym h))
above_plain (inf false) (fin t n d) p h = absurd (true≢false (sym h))
above_plain (fin true m e) y p h = absurd (true≢false p)
above_plain (fin false m e) nan p h = absurd (true≢false (sym h))
above_plain (fin false m e) (inf true) p h = absurd (true≢false (sym h))
above_plain (fin false m e) (inf false) p h = refl
above_plain (fin false m e) (fin true n d) p h = absurd (true≢false (sym h))
above_plain (fin false m e) (fin false n d) p h = refl

above_keeps : (r y : Float) → Plain r → lt r y ≡ true → (x : Float) → Reaches r x → Reaches y x
unfolding lt
above_keeps nan y p h x k = absurd p
above_keeps (inf true) y p h x k = absurd (true≢false p)
above_keeps (inf false) nan p h x k = tt
above_keeps (inf false) (inf t) p h x k = tt
above_keeps (inf false) (fin t n d) p h x k = absurd (true≢false (sym h))
above_keeps (fin true m e) y p h x k = absurd (true≢false p)
above_keeps (fin false m e) nan p h x k = tt
above_keeps (fin false m e) (inf t) p h x k = tt
above_keeps (fin false m e) (fin true n d) p h x k = absurd (true≢false (sym h))
above_keeps (fin false m e) (fin false n d) p h nan k = absurd k
above_keeps (fin false m e) (fin false n d) p h (inf s) k = absurd k
above_keeps (fin false m e) (fin false n d) p h (fin s a g) k =
    through (a * up g) (m * up e) (n * up d) (down g) (down e) (down d) (down_pos e) k (le_of_lt (ltb-true (m * up e * down d) (n * up d * down e) h))

itself : (x : Float) → finite x ≡ true → Reaches x x
unfolding finite
itself nan f = tt
itself (inf s) f = tt
itself (fin s m e) f = le_refl (m * up e * down e)

other : (x : Float) → finite x ≡ true → Reaches (neg x) x
unfolding finite neg
other nan f = tt
other (inf s) f = tt
other (fin s m e) f = le_refl (m * up e * down e)

within : (r x : Float) → Plain r → lt r x ≡ false → lt r (neg x) ≡ false → finite x ≡ true → Reaches r x
unfolding lt neg finite
within nan x p h k f = tt
within (inf s) x p h k f = tt
within (fin true m e) x p h k f = absurd (true≢false p)
within (fin false m e) nan p h k f = absurd (true≢false (sym f))
within (fin false m e) (inf s) p h k f = absurd (true≢false (sym f))
within (fin false m e) (fin false n d) p h k f = ltb-false (m * up e * down d) (n * up d * down e) h
within (fin false m e) (fin true n d) p h k f = ltb-false (m * up e * down d) (n * up d * down e) k

module _ (r x : Float) (p : Plain r) where
  pub widen_up : lt r x ≡ true → Wider r x x
  widen_up h = record { plain = above_plain r x p h; covers = itself x; keeps = above_keeps r x p h }

  pub widen_down : lt r (neg x) ≡ true → Wider r x (neg x)
  widen_down h = record { plain = above_plain r (neg x) p h; covers = other x; keeps = above_keeps r (neg x) p h }

  pub widen_not : lt r x ≡ false → lt r (neg x) ≡ false → Wider r x r
  widen_not h k = record { plain = p; covers = within r x p h k; keeps = λ y q. q }
