-- When a sheet is accepted: it is read, and its dwarf tree is at most 57 tall, which every sheet's is.
use Prim.Native.Nat.{ℕ, ◌≤◌, ◌<◌}
use mathlib.Core.Path.{◌≡◌, refl, ap, ◌∙◌}
use borrow.Author.Tests.{le-leb, lt-leb, leb-true}
use lib.Dec.{leb}
use Rattle.outcome.specs.Outcome.{Outcome, given, refused, unfit, need, ◌>>◌}
use Rattle.outcome.specs.Numbered.{Numbered}
use Rattle.outcome.proofs.Questions.{need-given, bind_given, given-same}
use Rattle.contraction.specs.Rounds.{dwarf}
use Rattle.contraction.specs.Height.{height}
use Rattle.contraction.proofs.Tall.{tall_57}
use Rattle.sheet.specs.Sheet.{Sheets, Sheet, reading}
use Rattle.sheet.proofs.Guaranteed.{guaranteed}
use Rattle.sheet.proofs.Numbered.{reading-numbered}
use Rattle.accepting.specs.Accepting.{tallest, accepted}

-- A sheet is accepted exactly if it is read and its dwarf height is at most 57.
module _ (s : Sheets) (x : Sheet) where
  pub accepted-read : accepted s ≡ given x → (reading s ≡ given x) × (height (dwarf x.formula) ≤ tallest)
  unfolding accepted
  accepted-read is =
      let a = bind_given (reading s) (λ (y : Sheet). need (leb (height (dwarf y.formula)) tallest) 8 0 >> given y) x is in
      let b = need-given (leb (height (dwarf a.0.formula)) tallest) 8 0 (given a.0) x a.2 in
      let same : a.0 ≡ x = given-same _ _ b.1 in
      (a.1 ∙ ap given same, rw (← same) (leb-true _ _ b.0))

  pub read-accepted : reading s ≡ given x → height (dwarf x.formula) ≤ tallest → accepted s ≡ given x
  unfolding accepted
  read-accepted is low = rw (is, le-leb (height (dwarf x.formula)) tallest low)

  pub too_tall_refused : reading s ≡ given x → tallest < height (dwarf x.formula) → accepted s ≡ refused 8 0
  unfolding accepted
  too_tall_refused is high = rw (is, lt-leb (height (dwarf x.formula)) tallest high)

-- ---- Refusal 8 cannot come

pub accepted-given : (s : Sheets) (r : Sheet) → reading s ≡ given r → accepted s ≡ given r
accepted-given s r e = read-accepted s r e (tall_57 r.formula (guaranteed s r e).own.few_leaves)

pub accepted-refused : (s : Sheets) (number place : ℕ) → reading s ≡ refused number place → accepted s ≡ refused number place
unfolding accepted
accepted-refused s number place e = rw e

pub accepted-unfit : (s : Sheets) (number place : ℕ) → reading s ≡ unfit number place → accepted s ≡ unfit number place
unfolding accepted
accepted-unfit s number place e = rw e

-- Every sheet that can be read is accepted.
pub never_8 : (s : Sheets) → accepted s ≡ reading s
never_8 s = by (reading s) refl
  where
    by : (o : Outcome Sheet) → reading s ≡ o → accepted s ≡ o
    by (given r) e = accepted-given s r e
    by (refused number place) e = accepted-refused s number place e
    by (unfit number place) e = accepted-unfit s number place e

-- No refusal has number 0.
pub accepted-numbered : (s : Sheets) → Numbered (accepted s)
accepted-numbered s = rw (never_8 s) (reading-numbered s)
