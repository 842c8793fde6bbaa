-- The balls that are lent, one by one.
use mathlib.Core.Path.{◌≡◌, refl, sym, ◌∙◌}
use Prim.Native.Nat.{ℕ, zero, suc, ◌+◌, ◌*◌, ◌/◌, ◌<◌, ◌≤◌}
use native.Mathlib.Omega.{arith}
use mathlib.Core.List.{List, [], ◌∷◌}
use lib.IntN.{ℤ, pos}
use lib.ListN.{length, get_or}
use Rattle.cross_ranks.specs.Ranks.{unrank}
use Rattle.cross_cuts.specs.Cuts.{fault}
use Rattle.cross_cuts.specs.Keys.{cut_of}
use Rattle.cross_cuts.specs.declared.Met.{Met}
use Rattle.std.proofs.Common.{Option, None}
use Rattle.cross_balls.specs.Balls.{ball_cut, ball_cuts}

pub length-cuts : (numbers : List ℤ) → length (ball_cuts numbers) ≡ (length numbers + 3) / 4
unfolding ball_cuts
length-cuts [] = refl
length-cuts (u ∷ []) = refl
length-cuts (u ∷ v ∷ []) = refl
length-cuts (u ∷ v ∷ radius ∷ []) = refl
length-cuts (u ∷ v ∷ radius ∷ centre ∷ rest) = omega (arith, length-cuts rest)

-- a ball that is only begun
cut_begun : (numbers : List ℤ) (i : ℕ) → 4 * i < length numbers → length numbers < 4 * i + 4 → get_or (ball_cuts numbers) i fault ≡ fault
unfolding ball_cuts
cut_begun [] i h k = absurd (omega arith)
cut_begun (u ∷ []) zero h k = refl
cut_begun (u ∷ v ∷ []) zero h k = refl
cut_begun (u ∷ v ∷ radius ∷ []) zero h k = refl
cut_begun (u ∷ v ∷ radius ∷ centre ∷ rest) zero h k = absurd (omega arith)
cut_begun (u ∷ []) (suc i) h k = absurd (omega arith)
cut_begun (u ∷ v ∷ []) (suc i) h k = absurd (omega arith)
cut_begun (u ∷ v ∷ radius ∷ []) (suc i) h k = absurd (omega arith)
cut_begun (u ∷ v ∷ radius ∷ centre ∷ rest) (suc i) h k = cut_begun rest i (omega arith) (omega arith)

-- a ball that is all there
cut-whole : (numbers : List ℤ) (i : ℕ) → 4 * i + 4 ≤ length numbers
    → get_or (ball_cuts numbers) i fault ≡ ball_cut (get_or numbers (4 * i) (pos 0)) (get_or numbers (4 * i + 1) (pos 0)) (get_or numbers (4 * i + 2) (pos 0)) (get_or numbers (4 * i + 3) (pos 0))
unfolding ball_cuts
cut-whole [] i h = absurd (omega arith)
cut-whole (u ∷ []) i h = absurd (omega arith)
cut-whole (u ∷ v ∷ []) i h = absurd (omega arith)
cut-whole (u ∷ v ∷ radius ∷ []) i h = absurd (omega arith)
cut-whole (u ∷ v ∷ radius ∷ centre ∷ rest) zero h = refl
cut-whole (u ∷ v ∷ radius ∷ centre ∷ rest) (suc i) h =
    let e0 : 4 * suc i ≡ suc (suc (suc (suc (4 * i)))) = omega arith in
    let e1 : 4 * suc i + 1 ≡ suc (suc (suc (suc (4 * i + 1)))) = omega arith in
    let e2 : 4 * suc i + 2 ≡ suc (suc (suc (suc (4 * i + 2)))) = omega arith in
    let e3 : 4 * suc i + 3 ≡ suc (suc (suc (suc (4 * i + 3)))) = omega arith in
    rw (e1, e2, e3, e0) (cut-whole rest i (omega arith))

-- ---- the exits of `meet_at`
pub at_begun : (numbers : List ℤ) (i : ℕ) → 4 * i < length numbers → length numbers < 4 * i + 4 → cut_of None ≡ get_or (ball_cuts numbers) i fault
at_begun numbers i h k = sym (cut_begun numbers i h k)

pub at-whole : (numbers : List ℤ) (i u v radius centre : ℕ) (m : Option Met) → 4 * i + 4 ≤ length numbers
    → unrank u ≡ get_or numbers (4 * i) (pos 0) → unrank v ≡ get_or numbers (4 * i + 1) (pos 0) → unrank radius ≡ get_or numbers (4 * i + 2) (pos 0) → unrank centre ≡ get_or numbers (4 * i + 3) (pos 0)
    → cut_of m ≡ ball_cut (unrank u) (unrank v) (unrank radius) (unrank centre) → cut_of m ≡ get_or (ball_cuts numbers) i fault
at-whole numbers i u v radius centre m h eu ev er ec e = e ∙ rw (eu, ev, er, ec) (sym (cut-whole numbers i h))
