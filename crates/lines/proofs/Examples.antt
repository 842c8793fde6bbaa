-- Worked examples of the line job, computed: open walls, shapes that bound a wall, and every boundary of the refusals.
use Prim.Native.Nat.{ℕ, zero, suc}
use native.Mathlib.Nat.{div-one, mod-one}
use mathlib.Core.Path.{◌≡◌, refl, ap}
use mathlib.Core.Bool.{Bool, true, false, ◌&&◌}
use mathlib.Core.List.{List, [], ◌∷◌}
use mathlib.Core.Option.{none}
use lib.Dec.{leb}
use lib.IntN.{ℤ, pos, negsuc}
use lib.ListN.{length, replicate, length-replicate}
use Rattle.outcome.specs.Outcome.{given, refused, need}
use Rattle.formula.specs.Formula.{Formula, leaf, node, difference, inside}
use Rattle.formula.specs.States.{times, outside}
use Rattle.lines.specs.Lines.{LineLists, line_lists, low, high, crossed, bits, rowed, ordered, judged, lowest_from, shape_at, Wall, walls_on, crossings_on, walls_from, walls}
use Rattle.lines.specs.Columns.{any_inside, starts_from, columns_from, all_columns, column_walls}

-- by line, start and end, and the shapes there
abbrev wall : ℕ → ℤ → ℤ → ℕ → ℕ → Wall
wall l a b s t = record { line = l; start = a; end = b; start_shape = s; end_shape = t }

-- one line's, by the positions and shapes of its crossings
abbrev lines_of : List (ℤ × ℕ) → List ℕ
lines_of [] = []
lines_of (x ∷ xs) = 0 ∷ lines_of xs

abbrev positions_of_lem : List (ℤ × ℕ) → List ℤ
positions_of_lem [] = []
positions_of_lem (x ∷ xs) = x.0 ∷ positions_of_lem xs

abbrev shapes_of_lem : List (ℤ × ℕ) → List ℕ
shapes_of_lem [] = []
shapes_of_lem (x ∷ xs) = x.1 ∷ shapes_of_lem xs

abbrev line : List ℕ → List (ℤ × ℕ) → LineLists
line row xs = line_lists row (lines_of xs) (positions_of_lem xs) (shapes_of_lem xs)

abbrev A : Formula
A = leaf 0

abbrev B : Formula
B = leaf 1

-- A crossed at 5 only, from outside, and its mirror. No crossing at all, in metal and in air. Crossed twice at one position, inside before: stretches that touch are joined. B less A, both inside at first.
open_walls : (walls A 1 (line (0 ∷ []) ((pos 5, 0) ∷ [])) ≡ wall 0 (pos 5) high 0 65535 ∷ [])
    × (walls A 1 (line (1 ∷ []) ((pos 5, 0) ∷ [])) ≡ wall 0 low (pos 5) 65535 0 ∷ [])
    × (walls A 1 (line (1 ∷ []) []) ≡ wall 0 low high 65535 65535 ∷ [])
    × (walls A 1 (line (0 ∷ []) []) ≡ [])
    × (walls A 1 (line (1 ∷ []) ((pos 5, 0) ∷ (pos 5, 0) ∷ [])) ≡ wall 0 low high 65535 65535 ∷ [])
    × (walls (node difference B A) 2 (line (1 ∷ 1 ∷ []) ((pos 5, 0) ∷ (pos 9, 1) ∷ [])) ≡ wall 0 (pos 5) (pos 9) 0 1 ∷ [])
unfolding walls_from walls_on crossings_on shape_at lowest_from crossed times
open_walls = (refl, refl, refl, refl, refl, refl)

-- Three lines: what is open at a line's end runs into no other line, and each begins with its own row. The first position past the low viewOf and the last before the high one.
abbrev Three : LineLists
Three = line_lists (1 ∷ 0 ∷ 0 ∷ 0 ∷ 1 ∷ 1 ∷ []) (0 ∷ 0 ∷ 1 ∷ []) (pos 5 ∷ pos 7 ∷ pos 2 ∷ []) (0 ∷ 0 ∷ 0 ∷ [])

several : (walls A 2 Three ≡ wall 0 low (pos 5) 65535 0 ∷ wall 0 (pos 7) high 0 65535 ∷ wall 1 (pos 2) high 0 65535 ∷ wall 2 low high 65535 65535 ∷ [])
    × (walls A 1 (line (1 ∷ []) ((negsuc 2147483646, 0) ∷ (pos 2147483646, 0) ∷ [])) ≡ wall 0 low (negsuc 2147483646) 65535 0 ∷ wall 0 (pos 2147483646) high 0 65535 ∷ [])
unfolding walls_from walls_on crossings_on shape_at lowest_from crossed times
several = (refl, refl)

-- the same by columns
by_columns : column_walls (inside A) outside none (all_columns 2 Three) ≡ wall 0 low (pos 5) 65535 0 ∷ wall 0 (pos 7) high 0 65535 ∷ wall 1 (pos 2) high 0 65535 ∷ wall 2 low high 65535 65535 ∷ []
unfolding column_walls columns_from starts_from any_inside shape_at lowest_from crossed times
by_columns = refl

-- Several crossings at one position: the lowest that changes, in whatever order they stand; one crossed twice there is no answer, and one that stands at no leaf is.
faces : (walls A 3 (line (0 ∷ 0 ∷ 0 ∷ []) ((pos 0, 2) ∷ (pos 0, 1) ∷ (pos 0, 0) ∷ (pos 9, 1) ∷ (pos 9, 2) ∷ (pos 9, 0) ∷ [])) ≡ wall 0 (pos 0) (pos 9) 0 0 ∷ [])
    × (walls B 3 (line (0 ∷ 0 ∷ 0 ∷ []) ((pos 0, 1) ∷ (pos 0, 0) ∷ (pos 0, 2) ∷ (pos 0, 0) ∷ (pos 9, 2) ∷ (pos 9, 0) ∷ (pos 9, 1) ∷ (pos 9, 0) ∷ [])) ≡ wall 0 (pos 0) (pos 9) 1 1 ∷ [])
    × (walls B 3 (line (0 ∷ 0 ∷ 0 ∷ []) ((pos 0, 1) ∷ (pos 0, 0) ∷ (pos 9, 1) ∷ (pos 20, 0) ∷ [])) ≡ wall 0 (pos 0) (pos 9) 0 1 ∷ [])
    × (walls B 2 (line (1 ∷ 1 ∷ []) ((pos 0, 1) ∷ (pos 0, 0) ∷ [])) ≡ wall 0 low (pos 0) 65535 0 ∷ [])
unfolding walls_from walls_on crossings_on shape_at lowest_from crossed times
faces = (refl, refl, refl, refl)

-- 14: a length that is no multiple, and a byte 2. No rows at all, without crossings and with one.
rows : (judged 2 (line (0 ∷ 1 ∷ 0 ∷ []) []) ≡ refused 14 0)
    × (judged 2 (line (0 ∷ 2 ∷ []) []) ≡ refused 14 0)
    × (judged 2 (line (0 ∷ 1 ∷ []) []) ≡ given tt)
    × (judged 2 (line [] []) ≡ given tt)
    × (judged 2 (line [] ((pos 5, 0) ∷ [])) ≡ refused 15 0)
unfolding judged ordered bits
rows = (refl, refl, refl, refl, refl)

-- 15: both end marks, and what is next to them; a line number equal to the number of rows.
strayed : (judged 1 (line (0 ∷ []) ((low, 0) ∷ [])) ≡ refused 15 0)
    × (judged 1 (line (0 ∷ []) ((pos 5, 0) ∷ (high, 0) ∷ [])) ≡ refused 15 1)
    × (judged 1 (line (0 ∷ []) ((negsuc 2147483646, 0) ∷ (pos 2147483646, 0) ∷ [])) ≡ given tt)
    × (judged 1 (line_lists (0 ∷ 0 ∷ []) (2 ∷ []) (pos 5 ∷ []) (0 ∷ [])) ≡ refused 15 0)
    × (judged 1 (line_lists (0 ∷ 0 ∷ []) (1 ∷ []) (pos 5 ∷ []) (0 ∷ [])) ≡ given tt)
unfolding judged ordered bits
strayed = (refl, refl, refl, refl, refl)

-- Shape 3 of three names. A falling position, and a falling line. Then two reasons at once: 13 before 14, 14 before 10, and on one item 10 before 15 before 11.
refusals : (judged 3 (line (0 ∷ 0 ∷ 0 ∷ []) ((pos 5, 3) ∷ [])) ≡ refused 10 0)
    × (judged 3 (line (0 ∷ 0 ∷ 0 ∷ []) ((pos 5, 1) ∷ (pos 4, 1) ∷ [])) ≡ refused 11 1)
    × (judged 1 (line_lists (0 ∷ 0 ∷ []) (1 ∷ 0 ∷ []) (pos 5 ∷ pos 6 ∷ []) (0 ∷ 0 ∷ [])) ≡ refused 11 1)
    × (judged 1 (line_lists (2 ∷ []) (0 ∷ []) [] (0 ∷ [])) ≡ refused 13 0)
    × (judged 1 (line (2 ∷ []) ((pos 5, 1) ∷ [])) ≡ refused 14 0)
    × (judged 1 (line (0 ∷ []) ((low, 1) ∷ [])) ≡ refused 10 0)
    × (judged 1 (line (0 ∷ []) ((pos 5, 0) ∷ (low, 0) ∷ [])) ≡ refused 15 1)
unfolding judged ordered bits
refusals = (refl, refl, refl, refl, refl, refl, refl)

-- So many rows, of one name and all 0: refused 14 exactly if they are more than 4294967296.
zero_bits : (n : ℕ) → bits (replicate n 0) ≡ true
unfolding bits
zero_bits zero = refl
zero_bits (suc n) = zero_bits n

many_rows : (n : ℕ) → rowed 1 (replicate n 0) ≡ need (leb n 4294967296) 14 0
many_rows n =
    let long : length (replicate {A = ℕ} n 0) ≡ n = length-replicate {A = ℕ} n 0 in
    rw (long, div-one n, mod-one n, zero_bits n) (ap (λ b. need b 14 0) (and_yes (leb n 4294967296)))
  where
    and_yes : (b : Bool) → (b && true) ≡ b
    and_yes true = refl
    and_yes false = refl
