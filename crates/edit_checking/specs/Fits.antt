-- Which edits a run takes, document 02, K13: three lists, after how many toggles, the postfix position from 0, the new code.
use Rattle.std.specs.Prelude.{ℕ, suc, Bool, true, false, ◌&&◌, List, [], ◌∷◌, leb, get_or}
use Rattle.formula.specs.Codes.{is_operation}

-- An operation stands at position p of these codes.
abbrev pub operates_at : List ℕ → ℕ → Bool
operates_at codes p = is_operation (get_or codes p 0)

-- A moment does not fall below the one before, and does not exceed the number of toggles.
abbrev pub in_time : ℕ → ℕ → ℕ → Bool
in_time most before m = leb before m && leb m most

-- An edit at moment m, position p, to code c.
abbrev pub fits : List ℕ → ℕ → ℕ → ℕ → ℕ → ℕ → Bool
fits codes most before m p c = operates_at codes p && (is_operation c && in_time most before m)

-- The index of the first edit that does not fit; the number of edits where there is none.
abbrev pub first_unfit : List ℕ → ℕ → ℕ → List ℕ → List ℕ → List ℕ → ℕ
first_unfit codes most before [] ps cs = 0
first_unfit codes most before (m ∷ ms) [] cs = 0
first_unfit codes most before (m ∷ ms) (p ∷ ps) [] = 0
first_unfit codes most before (m ∷ ms) (p ∷ ps) (c ∷ cs) =
    elim (fits codes most before m p c) [ true ↦ suc (first_unfit codes most m ms ps cs) | false ↦ 0 ]
