-- The return journey: a sheet without 0xFFF3 moves there and back to the same bytes, and one of edition 2 that has it does not come back.
use Prim.Native.Nat.{ℕ, ◌+◌, ◌-◌, ◌*◌, ◌≤◌}
use native.Mathlib.Omega.{arith}
use mathlib.Core.Path.{◌≡◌, refl, sym, ap, ◌∙◌}
use mathlib.Core.Bool.{Bool, true, false, ◌&&◌}
use mathlib.Core.List.{List}
use lib.ListN.{length, drop}
use lib.Dec.{eqb, leb}
use borrow.Author.Tests.{le-leb, eq-eqb, ne_eqb}
use Rattle.outcome.specs.Outcome.{given, refused, need, ◌>>◌}
use Rattle.outcome.proofs.Questions.{given-same}
use Rattle.formula.specs.Formula.{postfix}
use Rattle.sheet.specs.Sheet.{Sheets, alone, beside, own_sheet, Sheet, codes_of, codes_in, reading}
use Rattle.sheet.proofs.Guaranteed.{guaranteed}
use Rattle.job_move.specs.Moving.{other, moved, has_exclusive, before_exclusive, codes_of_sheet, out_of_use, moving}
use Rattle.job_move.specs.Journey.{moved_in, in_edition, Bytes}
use Rattle.job_move.proofs.Exclusive.{has_either}
use Rattle.job_move.proofs.Journey.{moved_long, codes-written, reading-moves, bytes_back}

and-false : (a b : Bool) → b ≡ false → (a && b) ≡ false
and-false true b e = e
and-false false b e = refl

own-moved : (c : Sheets) (r : Sheet) → own_sheet (moved_in c r) ≡ moved (own_sheet c) r
own-moved (alone s) r = refl
own-moved (beside f s) r = refl

module _ (c : Sheets) (r : Sheet) (read : reading c ≡ given r) where
  gives : (long : ℕ) → out_of_use r ≡ false → length (own_sheet c) ≤ long → moving c long ≡ given (moved (own_sheet c) r)
  unfolding moving
  gives long free room = rw (read, free, le-leb (length (own_sheet c)) long room)

  refuses : (long : ℕ) → out_of_use r ≡ true → moving c long ≡ refused 19 (r.first + 2 * before_exclusive (codes_of_sheet r))
  unfolding moving
  refuses long used = rw (read, used)

  gave : (long : ℕ) (bytes : List ℕ) → out_of_use r ≡ false → moving c long ≡ given bytes → moved (own_sheet c) r ≡ bytes
  unfolding moving
  gave long bytes free is = by (leb (length (own_sheet c)) long) (rw (read, free) at is)
    where
      by : (b : Bool) → (need b 9 (length (own_sheet c)) >> given (moved (own_sheet c) r)) ≡ given bytes → moved (own_sheet c) r ≡ bytes
      by true h = given-same _ _ h
      by false h = let z : ◌≡◌ {A = ℕ} 0 1 = cc h in absurd (omega arith)

  -- the sheet moved, and what it has of 0xFFF3
  abbrev r' : Sheet
  r' = in_edition (other r.edition) r

  has_same : has_exclusive (codes_of_sheet r') ≡ has_exclusive (codes_of_sheet r)
  has_same = has_either r'.edition r.formula ∙ sym (has_either r.edition r.formula)

  long_back : length (own_sheet (moved_in c r)) ≡ length (own_sheet c)
  long_back = let g = guaranteed c r read in ap length (own-moved c r) ∙ moved_long g.fittings (own_sheet c) r g.own

-- No move to edition 2 writes 0xFFF3: where it gives bytes, the codes that stand in them from the formula's first offset to their end have none.
pub none_written : (c : Sheets) (r : Sheet) (long : ℕ) (bytes : List ℕ) → reading c ≡ given r → r.edition ≡ 1 → moving c long ≡ given bytes
    → has_exclusive (codes_of (drop r.first bytes)) ≡ false
none_written c r long bytes read one is = by (out_of_use r) refl
  where
    two : 3 - r.edition ≡ 2
    two = omega (arith, one)

    by : (b : Bool) → out_of_use r ≡ b → has_exclusive (codes_of (drop r.first bytes)) ≡ false
    by true e =
        let h : refused 19 (r.first + 2 * before_exclusive (codes_of_sheet r)) ≡ given bytes = sym (refuses c r read long e) ∙ is in
        let z : ◌≡◌ {A = ℕ} 0 1 = cc h in
        absurd (omega arith)
    by false e =
        let g = guaranteed c r read in
        let none : has_exclusive (codes_of_sheet r) ≡ false = rw (eq-eqb (3 - r.edition) 2 two) at e in
        let written = codes-written g.fittings (own_sheet c) r g.own in
        let wrote : moved (own_sheet c) r ≡ bytes = gave c r read long bytes e is in
        ap (λ s. has_exclusive (codes_of (drop r.first s))) (sym wrote)
        ∙ ap has_exclusive written ∙ has_either (other r.edition) r.formula ∙ sym (has_either r.edition r.formula) ∙ none

-- A sheet without 0xFFF3, of either edition, moves there and back, and is the same bytes.
pub journey : (c : Sheets) (r : Sheet) (there back : ℕ) → reading c ≡ given r → Bytes (own_sheet c) → has_exclusive (codes_of_sheet r) ≡ false
    → length (own_sheet c) ≤ there → length (own_sheet c) ≤ back
    → (moving c there ≡ given (moved (own_sheet c) r)) × (moving (moved_in c r) back ≡ given (own_sheet c))
journey c r there back read small none room room_back =
    let moves = reading-moves c r read in
    let to = r' c r read in
    let free : out_of_use r ≡ false = and-false (eqb (other r.edition) 2) (has_exclusive (codes_of_sheet r)) none in
    let free_back : out_of_use to ≡ false = and-false (eqb (other to.edition) 2) (has_exclusive (codes_of_sheet to)) (has_same c r read ∙ none) in
    let given_back = gives (moved_in c r) to moves back free_back (omega (arith, long_back c r read, room_back)) in
    (gives c r read there free room, given_back ∙ ap given (ap (λ (s : List ℕ). moved s to) (own-moved c r) ∙ bytes_back c r read small))

-- A sheet of edition 2 that has it moves to edition 1, and is refused on the way back, at the first such code.
pub no_return : (c : Sheets) (r : Sheet) (there back : ℕ) → reading c ≡ given r → r.edition ≡ 2 → has_exclusive (codes_of_sheet r) ≡ true
    → length (own_sheet c) ≤ there
    → (moving c there ≡ given (moved (own_sheet c) r)) × (moving (moved_in c r) back ≡ refused 19 (r.first + 2 * before_exclusive (postfix r.formula)))
no_return c r there back read two has room =
    let moves = reading-moves c r read in
    let to = r' c r read in
    let one : 3 - r.edition ≡ 1 = omega (arith, two) in
    let away : 3 - r.edition ≡ 2 → ⊥ = λ e. omega (arith, e, one) in
    let again : 3 - (3 - r.edition) ≡ 2 = omega (arith, two) in
    let free : out_of_use r ≡ false = rw (ne_eqb (3 - r.edition) 2 away) in
    let used : out_of_use to ≡ true = rw (eq-eqb (3 - (3 - r.edition)) 2 again) (has_same c r read ∙ has) in
    let codes : codes_in (3 - r.edition) r.formula ≡ postfix r.formula = rw (eq-eqb (3 - r.edition) 1 one) in
    (gives c r read there free room, refuses (moved_in c r) to moves back used ∙ ap (λ (cs : List ℕ). refused 19 (r.first + 2 * before_exclusive cs)) codes)
