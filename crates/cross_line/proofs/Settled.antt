-- What every accepted call gives, and what every refusal says.
use Prim.Native.Nat.{ℕ}
use native.Mathlib.Omega.{arith}
use mathlib.Core.Path.{◌≡◌}
use mathlib.Core.List.{List}
use mathlib.Core.Logic.{◌⊎◌, inl, inr}
use lib.Dec.{leb}
use lib.ListN.{length}
use lib.Ieee.{Float}
use Rattle.outcome.specs.Outcome.{given, refused, need, ◌>>◌}
use Rattle.outcome.specs.Numbered.{Numbered}
use Rattle.outcome.proofs.Questions.{need-given}
use Rattle.outcome.proofs.NumberedLaws.{asks}
use Rattle.cross_cuts.specs.Cuts.{Cut, start_row, line_crossings, answered}
use Rattle.cross_cuts.specs.Fit.{Fit}
use Rattle.cross_answer.proofs.FitLaws.{fit}
use Rattle.cross_answer.proofs.Answered.{need-refused, answered-numbered, answered-refused, answered-given}
use Rattle.cross_shapes.specs.declared.Probe.{Probe}
use Rattle.cross_line.specs.Crossing.{good_probe, shape_cuts, crossing_shapes}
use Rattle.cross_line.proofs.LentLaws.{length-cuts, cuts_in_range}

module _ (probe : Probe) (kinds : List ℕ) (numbers : List Float) (a b c : ℕ) where
  -- the start row has a byte a shape, and the crossings are of these shapes, between the end marks and in order
  pub shapes_fit : (cuts : List Cut) → crossing_shapes probe kinds numbers a b c ≡ given cuts → Fit (length kinds) (start_row cuts) (line_crossings cuts)
  unfolding crossing_shapes
  shapes_fit cuts e =
      let f = need-given (leb (length kinds) 256) 16 256 _ cuts e in
      let g = need-given (good_probe probe) 16 65535 _ cuts f.1 in
      let is = answered-given 16 (shape_cuts probe kinds numbers) a b c cuts g.1 in
      rw is at (rw (length-cuts probe kinds numbers) at (fit (shape_cuts probe kinds numbers) (cuts_in_range probe kinds numbers)))

  -- a refusal is 16 or 9
  pub shapes_refused : (k p : ℕ) → crossing_shapes probe kinds numbers a b c ≡ refused k p → (k ≡ 16) ⊎ (k ≡ 9)
  unfolding crossing_shapes
  shapes_refused k p e = first (need-refused (leb (length kinds) 256) 16 256 (need (good_probe probe) 16 65535 >> answered 16 (shape_cuts probe kinds numbers) a b c) k p e)
    where
      second : (k ≡ 16) ⊎ (answered 16 (shape_cuts probe kinds numbers) a b c ≡ refused k p) → (k ≡ 16) ⊎ (k ≡ 9)
      second (inl f) = inl f
      second (inr f) = answered-refused 16 (shape_cuts probe kinds numbers) a b c k p f

      first : (k ≡ 16) ⊎ ((need (good_probe probe) 16 65535 >> answered 16 (shape_cuts probe kinds numbers) a b c) ≡ refused k p) → (k ≡ 16) ⊎ (k ≡ 9)
      first (inl f) = inl f
      first (inr f) = second (need-refused (good_probe probe) 16 65535 (answered 16 (shape_cuts probe kinds numbers) a b c) k p f)

  -- so no refusal has number 0
  pub shapes_numbered : Numbered (crossing_shapes probe kinds numbers a b c)
  unfolding crossing_shapes
  shapes_numbered =
      asks (leb (length kinds) 256) 16 256 _ (omega arith)
      (asks (good_probe probe) 16 65535 _ (omega arith) (answered-numbered 16 (shape_cuts probe kinds numbers) a b c (omega arith)))
