-- What the half chord is, what every accepted call gives, and what every refusal says.
use Prim.Native.Nat.{ℕ, ◌+◌, ◌-◌, ◌*◌, ◌/◌, ◌<◌}
use native.Mathlib.Nat.{add-mul, mul-add, mul-one, one-mul}
use native.Mathlib.Omega.{arith}
use mathlib.Core.Path.{◌≡◌}
use mathlib.Core.List.{List}
use mathlib.Core.Logic.{◌⊎◌, inl, inr}
use lib.Dec.{leb}
use lib.IntN.{ℤ, nat_abs}
use lib.ListN.{length}
use Rattle.outcome.specs.Outcome.{given, refused}
use Rattle.outcome.specs.Numbered.{Numbered}
use Rattle.outcome.proofs.Questions.{need-given}
use Rattle.outcome.proofs.NumberedLaws.{asks}
use Rattle.cross_root.specs.Root.{Root}
use Rattle.cross_root.proofs.Greatest.{greatest_root}
use Rattle.cross_cuts.specs.Cuts.{Cut, start_row, line_crossings, answered}
use Rattle.cross_cuts.specs.Fit.{Fit}
use Rattle.cross_answer.proofs.FitLaws.{fit}
use Rattle.cross_answer.proofs.Answered.{need-refused, answered-numbered, answered-refused, answered-given}
use Rattle.cross_balls.specs.Balls.{squared, half_chord, ball_cuts, crossing_balls}
use Rattle.cross_balls.proofs.LentLaws.{length-cuts}
use Rattle.cross_balls.proofs.RangeLaws.{cuts_in_range}

-- the half chord's square is not above the radius squared less both offsets squared, and the next number's is
pub half_chord_root : (u v radius : ℤ) → Root (squared radius - (squared u + squared v)) (half_chord u v radius)
unfolding half_chord
half_chord_root u v radius = greatest_root (nat_abs radius) (squared radius - (squared u + squared v)) (below (nat_abs radius))
  where
    below : (r : ℕ) → r * r - (squared u + squared v) < (r + 1) * (r + 1)
    below r =
        let e : (r + 1) * (r + 1) ≡ r * r + r + (r + 1) = simp (mul-add, add-mul, mul-one, one-mul) (omega arith) in
        omega arith

module _ (numbers : List ℤ) (a b c : ℕ) where
  -- the start row has a byte a ball, and the crossings are of these balls, between the end marks and in order
  pub balls_fit : (cuts : List Cut) → crossing_balls numbers a b c ≡ given cuts → Fit ((length numbers + 3) / 4) (start_row cuts) (line_crossings cuts)
  unfolding crossing_balls
  balls_fit cuts e =
      let f = need-given (leb (length (ball_cuts numbers)) 256) 18 256 _ cuts e in
      let is = answered-given 18 (ball_cuts numbers) a b c cuts f.1 in
      rw is at (rw (length-cuts numbers) at (fit (ball_cuts numbers) (cuts_in_range numbers)))

  -- a refusal is 18 or 9
  pub balls_refused : (k p : ℕ) → crossing_balls numbers a b c ≡ refused k p → (k ≡ 18) ⊎ (k ≡ 9)
  unfolding crossing_balls
  balls_refused k p e = first (need-refused (leb (length (ball_cuts numbers)) 256) 18 256 (answered 18 (ball_cuts numbers) a b c) k p e)
    where
      first : (k ≡ 18) ⊎ (answered 18 (ball_cuts numbers) a b c ≡ refused k p) → (k ≡ 18) ⊎ (k ≡ 9)
      first (inl f) = inl f
      first (inr f) = answered-refused 18 (ball_cuts numbers) a b c k p f

  -- so no refusal has number 0
  pub balls_numbered : Numbered (crossing_balls numbers a b c)
  unfolding crossing_balls
  balls_numbered = asks (leb (length (ball_cuts numbers)) 256) 18 256 _ (omega arith) (answered-numbered 18 (ball_cuts numbers) a b c (omega arith))
