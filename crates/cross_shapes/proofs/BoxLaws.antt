-- Ranks compare as their positions do.
use mathlib.Core.Path.{◌≡◌, refl, ap}
use Prim.Native.Nat.{ℕ, min, max}
use native.Mathlib.Omega.{arith}
use mathlib.Core.Bool.{Bool, true, false, cond}
use borrow.Author.Tests.{ltb-true, ltb-false}
use lib.Dec.{ltb}
use Rattle.cross_ranks.specs.Ranks.{unrank}
use Rattle.cross_ranks.proofs.RankLaws.{unrank_lt}
use Rattle.cross_shapes.specs.Shapes.{lesser, greater}

-- ---- the lesser and the greater of two positions, by their ranks
pub lesser_rank : (a b : ℕ) → unrank (min a b) ≡ lesser (unrank a) (unrank b)
unfolding lesser
lesser_rank a b = rw (unrank_lt a b) (by (ltb a b) refl)
  where
    by : (t : Bool) → ltb a b ≡ t → unrank (min a b) ≡ cond t (unrank a) (unrank b)
    by true e = let h = ltb-true a b e in let i : min a b ≡ a = omega arith in ap unrank i
    by false e = let h = ltb-false a b e in let i : min a b ≡ b = omega arith in ap unrank i

pub greater_rank : (a b : ℕ) → unrank (max a b) ≡ greater (unrank a) (unrank b)
unfolding greater
greater_rank a b = rw (unrank_lt a b) (by (ltb a b) refl)
  where
    by : (t : Bool) → ltb a b ≡ t → unrank (max a b) ≡ cond t (unrank b) (unrank a)
    by true e = let h = ltb-true a b e in let i : max a b ≡ b = omega arith in ap unrank i
    by false e = let h = ltb-false a b e in let i : max a b ≡ a = omega arith in ap unrank i
