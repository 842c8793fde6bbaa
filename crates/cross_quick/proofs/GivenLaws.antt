-- A float whose nearest whole number may be given, and its rank.
use mathlib.Core.Path.{◌≡◌, refl, sym, ◌∙◌}
use mathlib.Core.Bool.{Bool, true, false, cond, true≢false}
use mathlib.Core.Option.{Option, none, some}
use Prim.Native.Nat.{ℕ}
use lib.IntN.{ℤ}
use lib.Ieee.{Float, nan, inf, fin, is_nan}
use Rattle.cross_ranks.specs.Ranks.{unrank}
use Rattle.cross_positions.specs.Positions.{allowed, in_range, nearest_whole}
use Rattle.cross_quick.specs.Given.{given, is_there}

in-range : (p : Option ℤ) → is_there (in_range p) ≡ true → in_range p ≡ p
in-range none h = refl
in-range (some z) h = by (allowed z) h
  where
    by : (t : Bool) → is_there (cond t (some z) none) ≡ true → cond t (some z) none ≡ some z
    by true h = refl
    by false h = absurd (true≢false (sym h))

found : (x : Float) → given x ≡ true → in_range (nearest_whole x) ≡ nearest_whole x
unfolding given
found x h = in-range (nearest_whole x) h

pub found_rank : (x : Float) (rank : ℕ) {good : Bool} → good ≡ given x → good ≡ true → some (unrank rank) ≡ nearest_whole x → some (unrank rank) ≡ in_range (nearest_whole x)
found_rank x rank e h m = m ∙ sym (found x (sym e ∙ h))

-- what is given is a number
pub given-number : (x : Float) → given x ≡ true → is_nan x ≡ false
unfolding given nearest_whole is_nan
given-number nan h = absurd (true≢false (sym h))
given-number (inf s) h = refl
given-number (fin s m e) h = refl
