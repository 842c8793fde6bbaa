-- What the functions of the move promise each other.
use Rattle.std.specs.Prelude.{ℕ, ◌+◌, ◌*◌, ◌≤◌, ◌≡◌, cond, Option, Some, None, List, [], ◌∷◌, length, eqb}
use Rattle.outcome.specs.Outcome.{given}
use Rattle.outcome.specs.Lent.{filled}
use Rattle.formula.specs.Formula.{exclusive, first_operation, code, Formula, Over}
use Rattle.sheet.specs.Sheet.{Sheet, codes_of, formula_in, codes_in}
use Rattle.sheet.specs.Guaranteed.{Own}
use Rattle.sheet_codes.specs.Codes.{CodesStand}
use Rattle.job_move.specs.Moving.{other, moved, has_exclusive, before_exclusive, codes_of_sheet, out_of_use}

-- The bytes are the formula's codes in the order of edition 1 or 2.
pub record Gives (edition names : ℕ) (bytes : List ℕ) (f : Formula) : Type 0 where
  pub least : 1 ≤ edition
  pub most : edition ≤ 2
  pub over : Over first_operation f
  pub judged : formula_in edition names 0 0 (codes_of bytes) ≡ given f
  pub codes_are : codes_of bytes ≡ codes_in edition f

-- Its codes in the other edition's order.
pub record OtherCodes (edition names : ℕ) (bytes codes : List ℕ) (n : ℕ) : Type 0 where
  pub long : length codes ≡ 2048
  pub are : (f : Formula) → Gives edition names bytes f → CodesStand (codes_in (other edition) f) codes n

-- ---- 0xFFF3 among codes

abbrev pub one_exclusive : ℕ → ℕ
one_exclusive c = cond (eqb c (code exclusive)) 1 0

-- How many of them are 0xFFF3.
unfoldable pub many_exclusive : List ℕ → ℕ
many_exclusive [] = 0
many_exclusive (c ∷ cs) = one_exclusive c + many_exclusive cs

-- The index of the first one, if there is one.
abbrev pub first_exclusive : List ℕ → Option ℕ
first_exclusive cs = cond (has_exclusive cs) (Some (before_exclusive cs)) None

-- ---- a sheet that is read, given in the other edition

-- The sheet is read as r, and the codes are those of the other edition.
pub record Held (s codes : List ℕ) (r : Sheet) : Type 0 where
  pub fittings : List (List ℕ)
  pub own : Own fittings s r
  pub few : length codes ≤ 2047
  pub are : codes ≡ codes_in (other r.edition) r.formula

pub record Holding (s codes : List ℕ) : Type 0 where
  pub sheet : Sheet
  pub held : Held s codes sheet

-- The offset of the first 0xFFF3 of a sheet of edition 1, if there is one.
pub record UsedAt (s codes : List ℕ) (at : Option ℕ) : Type 0 where
  pub is : (r : Sheet) → Held s codes r → at ≡ cond (out_of_use r) (Some (r.first + 2 * before_exclusive (codes_of_sheet r))) None

pub record Movable (s codes lent : List ℕ) : Type 0 where
  pub sheet : Sheet
  pub held : Held s codes sheet
  pub room : length s ≤ length lent

pub record MovedTo (s codes old new : List ℕ) : Type 0 where
  pub are : (r : Sheet) → Held s codes r → new ≡ filled (moved s r) old
