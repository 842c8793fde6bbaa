-- The promise of the move, exit by exit.
use Prim.Native.Nat.{ℕ, ◌+◌, ◌*◌, ◌≤◌}
use native.Mathlib.Omega.{arith}
use mathlib.Core.Path.{◌≡◌, refl, sym, ap, ◌∙◌}
use mathlib.Core.Bool.{Bool, true, false}
use mathlib.Core.List.{List}
use borrow.Author.Tests.{le-leb}
use lib.ListN.{length, get_or, take}
use lib.Seq.{length-take-le}
use Rattle.outcome.specs.Outcome.{given, refused, room, ◌>>◌}
use Rattle.formula.specs.Formula.{first_operation}
use Rattle.formula.proofs.Laws.{over_more}
use Rattle.sheet.specs.Sheet.{Sheets, sheets_of, own_sheet, Sheet, between, codes_of, codes_in, reading}
use Rattle.sheet.specs.Guaranteed.{Own, Guaranteed}
use Rattle.sheet.proofs.CodesFirst.{length-codes_in}
use Rattle.sheet_codes.specs.Codes.{CodesStand}
use Rattle.std.specs.Prelude.{Ok, Some, None}
use Rattle.sheet_reading.specs.Reading.{told}
use Rattle.sheet_reading.specs.declared.Read.{Read}
use Rattle.sheet_reading.proofs.Told.{Known, read_known, known_facts, formula-said}
use Rattle.job_move.specs.Moving.{other, moved, moving, before_exclusive, codes_of_sheet, out_of_use}
use Rattle.job_move.specs.Moved.{Moved}
use Rattle.job_move.specs.Putting.{Gives, OtherCodes, Held, Holding, UsedAt, Movable, MovedTo}
use Rattle.job_move.proofs.Exclusive.{some_of, none_of}
use Rattle.job_move.proofs.Giving.{moved_long}

own_of : (b : Bool) (f s : List ℕ) → own_sheet (sheets_of b f s) ≡ s
own_of true f s = refl
own_of false f s = refl

module _ (b : Bool) (f s lent : List ℕ) (a : Read) (said : given a ≡ told (sheets_of b f s)) where
  abbrev all : Sheets
  all = sheets_of b f s

  pub known : Known all a.names a.leaves a.first a.past
  known = read_known all a said

  abbrev sheet : Sheet
  sheet = known.sheet

  read : reading all ≡ given sheet
  read = known.read

  facts : Guaranteed all sheet
  facts = known_facts all a.names a.leaves a.first a.past known

  own : Own facts.fittings s sheet
  own = rw (own_of b f s) at facts.own

  gives : Gives (get_or s 4 0) a.names (between s a.first a.past) sheet.formula
  gives =
      let few : length sheet.names ≤ first_operation = omega (arith, own.good_names.few) in
      record {
        least = omega (arith, own.said, own.least_edition);
        most = omega (arith, own.said, own.most_edition);
        over = over_more sheet.formula (length sheet.names) first_operation few own.over;
        judged = rw (own_of b f s) at (formula-said all a.names a.leaves a.first a.past known);
        codes_are =
            ap (λ (i : ℕ). codes_of (between s i a.past)) known.first_is
            ∙ ap (λ (i : ℕ). codes_of (between s sheet.first i)) known.past_is
            ∙ own.codes_are
            ∙ ap (λ (e : ℕ). codes_in e sheet.formula) (sym own.said);
      }

  module _ (codes : List ℕ) (n : ℕ) (others : OtherCodes (get_or s 4 0) a.names (between s a.first a.past) codes n) where
    stand : CodesStand (codes_in (other sheet.edition) sheet.formula) codes n
    stand = rw own.said at (others.are sheet.formula gives)

    pub codes_within : n ≤ length codes
    codes_within = omega (arith, stand.all, stand.sized, length-codes_in (other sheet.edition) sheet.formula, own.few_codes)

    pub codes_taken : n ≡ length (take n codes)
    codes_taken = sym (length-take-le n codes codes_within)

    held : Held s (take n codes) sheet
    held =
        let few : length (take n codes) ≤ 2047 = omega (arith, ap length stand.are, length-codes_in (other sheet.edition) sheet.formula, own.few_codes) in
        record { fittings = facts.fittings; own = own; few = few; are = stand.are }

    pub holding : Holding s (take n codes)
    holding = record { sheet = sheet; held = held }

    pub movable : length s ≤ length lent → Movable s (take n codes) lent
    movable h = record { sheet = sheet; held = held; room = h }

    -- what is asked after the sheets are read
    pub move_refused : (at : ℕ) → UsedAt s (take n codes) (Some at) → moving all (length lent) ≡ refused 19 at
    unfolding moving
    move_refused at used =
        let o = some_of (out_of_use sheet) at (sheet.first + 2 * before_exclusive (codes_of_sheet sheet)) (used.is sheet held) in
        rw (read, o.0, ← o.1)

    pub move_asked : UsedAt s (take n codes) None → moving all (length lent) ≡ (room (length s) (length lent) >> given (moved s sheet))
    unfolding moving
    move_asked used =
        let o = none_of (out_of_use sheet) (sheet.first + 2 * before_exclusive (codes_of_sheet sheet)) (used.is sheet held) in
        rw (read, o, own_of b f s)

    pub move_given : (new : List ℕ) → UsedAt s (take n codes) None → length s ≤ length lent → MovedTo s (take n codes) lent new → Moved (moving all (length lent)) lent (Ok (length s)) new
    move_given new used h done =
        record {
          answer = rw (move_asked used, le-leb (length s) (length lent) h, moved_long s (take n codes) sheet held);
          list = done.are sheet held ∙ rw (move_asked used, le-leb (length s) (length lent) h);
        }
