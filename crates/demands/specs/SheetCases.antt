-- Moves to the other edition and questions for names, requests K7, K10 and K11: what they give, and how they are refused.
use Rattle.std.specs.Prelude.{ℕ, ◌≡◌, List, [], ◌∷◌, ◌++◌}
use Rattle.outcome.specs.Outcome.{Outcome, given, refused, unfit}
use Rattle.formula.specs.Formula.{union, difference, exclusive, Formula, node, prefix}
use Rattle.sheet.specs.Sheet.{Sheets, alone, beside}
use Rattle.job_move.specs.Moving.{moving}
use Rattle.job_name.specs.Naming.{naming, Stand, stand}
use Rattle.job_names.specs.Names.{naming_all}
use Rattle.demands.specs.Worked.{two, field, names, codes, sheet, A, B, C, worked}

-- A sheet of edition 2, and a fittings sheet of the names K and L.
abbrev sheet_first : ℕ → Formula → List ℕ
sheet_first n f = field 1 (two 2) ++ (names 65 n ++ field 4 (codes (prefix f)))

abbrev fittings : List ℕ
fittings = field 1 (two 1) ++ names 75 2

-- The worked sheet in edition 2; and a sheet that has 0xFFF3 twice, first at offset 24, and at the end.
abbrev worked_first : List ℕ
worked_first = sheet_first 3 (node difference A (node union B C))

abbrev twice : Formula
twice = node exclusive (node exclusive A B) C

pub data Case : Type 0 where
  -- of the sheets of a call and the answer list's length: the moved sheet's bytes
  moves : Sheets → ℕ → Outcome (List ℕ) → Case
  -- of the sheets and a shape's number: the name's bytes
  asks : Sheets → ℕ → Outcome (List ℕ) → Case
  -- of the sheets and the lengths of three answer lists: where all names stand
  asks_all : Sheets → ℕ → ℕ → ℕ → Outcome (List Stand) → Case

abbrev Holds : Case → Type 0
Holds (moves c long gives) = moving c long ≡ gives
Holds (asks c k gives) = naming c k ≡ gives
Holds (asks_all c sheets firsts pasts gives) = naming_all c sheets firsts pasts ≡ gives

abbrev pub All : List Case → Type 0
All [] = Unit {0}
All (c ∷ cs) = Holds c × All cs

abbrev pub table : List Case
table =
    -- The worked sheet, 30 bytes, there and back, alone and beside fittings; 29 are too few.
    moves (alone worked) 30 (given worked_first)
    ∷ moves (alone worked_first) 30 (given worked)
    ∷ moves (beside fittings worked) 30 (given worked_first)
    ∷ moves (alone worked) 29 (refused 9 30)
    -- 0xFFF3 goes to edition 1, and not to edition 2: 19 at the first one, before 9.
    ∷ moves (alone (sheet_first 3 twice)) 30 (given (sheet 3 twice))
    ∷ moves (alone (sheet 3 twice)) 30 (refused 19 24)
    ∷ moves (beside fittings (sheet 3 twice)) 0 (refused 19 24)
    -- Of a fittings sheet that ends before its header, 1 at its own length.
    ∷ moves (beside [] worked) 30 (unfit 1 0)
    -- Names: K and L are shapes 0 and 1, A, B and C after them; past them 10, place 0.
    ∷ asks (alone worked) 2 (given (67 ∷ []))
    ∷ asks (alone worked) 3 (refused 10 0)
    ∷ asks (beside fittings worked) 1 (given (76 ∷ []))
    ∷ asks (beside fittings worked) 2 (given (65 ∷ []))
    ∷ asks (beside fittings worked) 5 (refused 10 0)
    ∷ asks (beside [] worked) 0 (unfit 1 0)
    -- All of them: the sheet, 1 the fittings sheet and 2 the customer's, the first offset and the one past the end.
    ∷ asks_all (beside fittings worked) 5 5 5 (given (stand 1 8 9 ∷ stand 1 12 13 ∷ stand 2 8 9 ∷ stand 2 12 13 ∷ stand 2 16 17 ∷ []))
    ∷ asks_all (alone worked_first) 3 3 3 (given (stand 2 8 9 ∷ stand 2 12 13 ∷ stand 2 16 17 ∷ []))
    ∷ asks_all (beside fittings worked) 5 4 0 (refused 9 5)
    ∷ asks_all (beside [] worked) 5 5 5 (unfit 1 0)
    ∷ []
