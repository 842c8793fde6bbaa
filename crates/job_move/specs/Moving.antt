-- The move: the customer's sheet in the edition that it has not. Document 02, K10 and K11.
use Rattle.std.specs.Prelude.{ℕ, suc, ◌+◌, ◌-◌, ◌*◌, Bool, true, false, not, ◌&&◌, ◌||◌, List, [], ◌∷◌, ◌++◌, length, take, set, eqb}
use Rattle.outcome.specs.Outcome.{Outcome, given, need, room, ◌>>=◌, ◌>>◌}
use Rattle.formula.specs.Formula.{exclusive, code}
use Rattle.sheet.specs.Sheet.{Sheets, own_sheet, Sheet, formula_tag, codes_in, reading}
use Rattle.sheet_laying.specs.Bytes.{code_bytes}

-- Of editions 1 and 2, the other one.
abbrev pub other : ℕ → ℕ
other edition = 3 - edition

-- The header's edition, the formula's tag and the order of its codes change; every other byte stays.
unfoldable pub moved : List ℕ → Sheet → List ℕ
moved s r =
    set (set (take r.first s) 4 (other r.edition)) (r.first - 3) (formula_tag (other r.edition))
    ++ code_bytes (codes_in (other r.edition) r.formula)

-- Whether 0xFFF3 is among codes, and how many of them stand before the first one.
unfoldable pub has_exclusive : List ℕ → Bool
has_exclusive [] = false
has_exclusive (c ∷ cs) = eqb c (code exclusive) || has_exclusive cs

unfoldable pub before_exclusive : List ℕ → ℕ
before_exclusive [] = 0
before_exclusive (c ∷ cs) = elim (eqb c (code exclusive)) [ true ↦ 0 | false ↦ suc (before_exclusive cs) ]

-- A sheet's codes in its own order.
abbrev pub codes_of_sheet : Sheet → List ℕ
codes_of_sheet r = codes_in r.edition r.formula

-- A move to edition 2 of a sheet with 0xFFF3.
abbrev pub out_of_use : Sheet → Bool
out_of_use r = eqb (other r.edition) 2 && has_exclusive (codes_of_sheet r)

-- The sheets first; then 19, place the first such code; an answer list shorter than the sheet is 9, last, place the sheet's length.
unfoldable pub moving : Sheets → ℕ → Outcome (List ℕ)
moving c long = do
  sheet ← reading c
  need (not (out_of_use sheet)) 19 (sheet.first + 2 * before_exclusive (codes_of_sheet sheet))
  room (length (own_sheet c)) long
  given (moved (own_sheet c) sheet)
