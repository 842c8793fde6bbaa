-- Signed numbers and their ranks.
use mathlib.Core.Path.{◌≡◌, refl, sym, ◌∙◌}
use Prim.Native.Nat.{ℕ, suc, ◌-◌, ◌<◌, ◌≤◌}
use native.Mathlib.Omega.{arith}
use mathlib.Core.Bool.{Bool, true, false, cond}
use lib.Dec.{ltb}
use lib.IntN.{pos, negsuc}
use lib.Signed.{lt_z}
use borrow.Author.Tests.{le-ltb, lt-ltb, ltb-true, ltb-false}
use Rattle.cross_ranks.specs.Ranks.{unrank}

ltb-same : (a b c d : ℕ) → (a < b → c < d) → (b ≤ a → d ≤ c) → ltb a b ≡ ltb c d
ltb-same a b c d h k = by (ltb a b) refl
  where
    by : (t : Bool) → ltb a b ≡ t → ltb a b ≡ ltb c d
    by true e = e ∙ sym (lt-ltb c d (h (ltb-true a b e)))
    by false e = e ∙ sym (le-ltb c d (k (ltb-false a b e)))

-- ---- ranks compare as their numbers do
pub unrank_lt : (a b : ℕ) → lt_z (unrank a) (unrank b) ≡ ltb a b
unrank_lt a b = by (ltb a 2147483648) refl (ltb b 2147483648) refl
  where
    by : (t : Bool) → ltb a 2147483648 ≡ t → (u : Bool) → ltb b 2147483648 ≡ u
        → lt_z (cond t (negsuc (2147483648 - suc a)) (pos (a - 2147483648))) (cond u (negsuc (2147483648 - suc b)) (pos (b - 2147483648))) ≡ ltb a b
    by true e true f =
        let x = ltb-true a 2147483648 e in
        let y = ltb-true b 2147483648 f in
        ltb-same (2147483648 - suc b) (2147483648 - suc a) a b (λ h. omega arith) (λ h. omega arith)
    by true e false f =
        let x = ltb-true a 2147483648 e in
        let y = ltb-false b 2147483648 f in
        sym (lt-ltb a b (omega arith))
    by false e true f =
        let x = ltb-false a 2147483648 e in
        let y = ltb-true b 2147483648 f in
        sym (le-ltb a b (omega arith))
    by false e false f =
        let x = ltb-false a 2147483648 e in
        let y = ltb-false b 2147483648 f in
        ltb-same (a - 2147483648) (b - 2147483648) a b (λ h. omega arith) (λ h. omega arith)
