-- What the promise of asking for a name settles: two answers that meet it are equal, and the bytes given are those that stand there.
use Prim.Native.Nat.{ℕ}
use mathlib.Core.Path.{◌≡◌, refl, sym, ap, ◌∙◌}
use mathlib.Core.Bool.{cond}
use mathlib.Core.List.{List}
use lib.Dec.{eqb, lit<}
use Rattle.outcome.specs.Outcome.{Outcome, given, refused, unfit, part}
use Rattle.outcome.specs.Numbered.{Numbered}
use Rattle.outcome.proofs.NumberedLaws.{given-numbered, asks, bind_numbered}
use Rattle.outcome.proofs.Judging.{answered_same}
use Rattle.outcome.specs.Refusing.{answered}
use Rattle.outcome.specs.declared.Refusal.{Refusal}
use Rattle.std.specs.Prelude.{Result}
use Rattle.sheet.specs.Sheet.{Sheets, reading}
use Rattle.sheet.proofs.Numbered.{reading-numbered}
use Rattle.job_name.specs.Naming.{naming, Stand, stand, placing, bytes_of}
use Rattle.job_name.specs.Named.{stood, placed_of, Named}
use Rattle.job_name.specs.declared.Place.{Place}
use Rattle.job_name.specs.declared.Place.TheVariants as place
use Rattle.job_name.proofs.Bytes as bytes
use Rattle.job_name.proofs.Placing.{asked_place}

abbrev place_of : Stand → Place
place_of (stand sheet first past) = cond (eqb sheet 1) (place.Fitting first past) (place.Own first past)

known : (p : Place) → place_of (stood p) ≡ p
known (place.Fitting first past) = refl
known (place.Own first past) = refl

placed_of-same : (r q : Result Place Refusal) → placed_of r ≡ placed_of q → r ≡ q
placed_of-same r q e = answered_same r q (sym (part-back (answered r)) ∙ ap (part place_of) e ∙ part-back (answered q))
  where
    part-back : (o : Outcome Place) → part place_of (part stood o) ≡ o
    part-back (given p) = ap given (known p)
    part-back (refused number place) = refl
    part-back (unfit number place) = refl

pub name_unique : (c : Sheets) (k : ℕ) (r q : Result Place Refusal) (xs ys : List ℕ) → Named c k r xs → Named c k q ys → (r ≡ q) × (xs ≡ ys)
name_unique c k r q xs ys a b = (placed_of-same r q (a.place ∙ sym b.place), a.name ∙ sym b.name)

-- No refusal has number 0.
pub name-numbered : (c : Sheets) (k : ℕ) → Numbered (placing c k)
name-numbered c k = rw (asked_place c k) (bind_numbered (reading c) _ (reading-numbered c) (λ r. search (asks, given-numbered, lit<)))

-- The name's bytes as they stand in whichever of the two sheets holds it.
pub name_stands : (c : Sheets) (k : ℕ) → naming c k ≡ part (bytes_of c) (placing c k)
name_stands = bytes.name_stands
