-- What the promise of reading settles: two answers that meet it are equal; it refuses exactly when the rules say.
use Prim.Native.Nat.{ℕ}
use mathlib.Core.Path.{◌≡◌, sym, ap, ◌∙◌}
use Rattle.std.specs.Prelude.{Result, Err}
use Rattle.outcome.specs.Outcome.{refused, unfit, part}
use Rattle.outcome.specs.Refusing.{number_of, answered}
use Rattle.outcome.specs.declared.Refusal.{Refusal}
use Rattle.outcome.specs.declared.Refusal.TheVariants as refusal
use Rattle.outcome.proofs.Questions.{part-refused, part-unfit}
use Rattle.outcome.proofs.Judging.{answered_same}
use Rattle.sheet.specs.Sheet.{Sheets, reading}
use Rattle.sheet_reading.specs.Reading.{numbers_of, told}
use Rattle.sheet_reading.specs.declared.Read.{Read}

pub read_unique : (s : Sheets) (r q : Result Read Refusal) → answered r ≡ told s → answered q ≡ told s → r ≡ q
read_unique s r q h k = answered_same r q (h ∙ sym k)

-- what is refused is the reading's refusal
pub read_err : (s : Sheets) (e : Refusal) → answered {A = Read} (Err e) ≡ told s → reading s ≡ answered (Err e)
unfolding told
read_err s (refusal.Refused f) said = part-refused numbers_of (reading s) (number_of f.reason) f.place said
read_err s (refusal.Unfit f) said = part-unfit numbers_of (reading s) (number_of f.reason) f.place said

module _ (s : Sheets) (r : Result Read Refusal) (said : answered r ≡ told s) (number place : ℕ) where
  pub read_refusal : answered r ≡ refused number place → reading s ≡ refused number place
  unfolding told
  read_refusal is = part-refused numbers_of (reading s) number place (sym is ∙ said)

  pub read-refuses : reading s ≡ refused number place → answered r ≡ refused number place
  unfolding told
  read-refuses is = said ∙ ap (part numbers_of) is

  -- and of the fittings sheet
  pub read-unfit : answered r ≡ unfit number place → reading s ≡ unfit number place
  unfolding told
  read-unfit is = part-unfit numbers_of (reading s) number place (sym is ∙ said)

  pub read_unfits : reading s ≡ unfit number place → answered r ≡ unfit number place
  unfolding told
  read_unfits is = said ∙ ap (part numbers_of) is
