-- Cuts, computed.
use Prim.Native.Nat.{ℕ}
use native.Mathlib.Omega.{arith}
use mathlib.Core.Path.{◌≡◌, refl}
use mathlib.Core.List.{[], ◌∷◌, ◌++◌, map}
use lib.IntN.{ℤ, pos}
use Rattle.outcome.specs.Outcome.{refused, ◌>>◌}
use Rattle.formula.specs.Formula.{Formula, leaf}
use Rattle.formula.specs.States.{times}
use Rattle.lines.specs.Lines.{LineLists, line_lists, low, high, crossed, bits, ordered, judged, lowest_from, shape_at, Wall, walls_on, crossings_on, walls_from, walls}
use Rattle.line_opinion.specs.Judging.{TheirLists, their_lists, theirs, right, wrong_at, opinion_from, opinion}
use Rattle.line_cuts.specs.Cuts.{first_part, second_part, cut_index, parts_of, on_later, join_walls, room_for}
use Rattle.line_cuts.specs.Places.{CutAt, Between, later}
use Rattle.line_cuts.specs.Theirs.{first_theirs, second_theirs, their_parts_of, join_opinions}
use Rattle.line_cuts.proofs.Places.{cut_there, cut-between}

abbrev A : Formula
A = leaf 0

abbrev wall : ℕ → ℤ → ℤ → ℕ → ℕ → Wall
wall l a b s t = record { line = l; start = a; end = b; start_shape = s; end_shape = t }

-- Three lines of two names: cut after the first, before the third crossing.
abbrev Three : LineLists
Three = line_lists (1 ∷ 0 ∷ 0 ∷ 0 ∷ 1 ∷ 1 ∷ []) (0 ∷ 0 ∷ 1 ∷ []) (pos 5 ∷ pos 7 ∷ pos 2 ∷ []) (0 ∷ 0 ∷ 0 ∷ [])

cut-Three : CutAt 2 1 2 Three
unfolding cut_index
cut-Three = cut_there 2 1 Three (omega arith) (omega arith)

parts : (first_part 2 1 2 Three ≡ line_lists (1 ∷ 0 ∷ []) (0 ∷ 0 ∷ []) (pos 5 ∷ pos 7 ∷ []) (0 ∷ 0 ∷ []))
    × (second_part 2 1 2 Three ≡ line_lists (0 ∷ 0 ∷ 1 ∷ 1 ∷ []) (0 ∷ []) (pos 2 ∷ []) (0 ∷ []))
parts = (refl, refl)

their_walls : (walls A 2 (first_part 2 1 2 Three) ≡ wall 0 low (pos 5) 65535 0 ∷ wall 0 (pos 7) high 0 65535 ∷ [])
    × (walls A 2 (second_part 2 1 2 Three) ≡ wall 0 (pos 2) high 0 65535 ∷ wall 1 low high 65535 65535 ∷ [])
    × (walls A 2 Three ≡ walls A 2 (first_part 2 1 2 Three) ++ map (on_later 1) (walls A 2 (second_part 2 1 2 Three)))
unfolding walls_from walls_on crossings_on shape_at lowest_from crossed times
their_walls = (refl, refl, refl)

-- One crossing on each side of the cut: the whole asks for more room than the parts together.
abbrev odd_parts : LineLists
odd_parts = line_lists (0 ∷ 0 ∷ []) (0 ∷ 1 ∷ []) (pos 5 ∷ pos 5 ∷ []) (0 ∷ 0 ∷ [])

rooms : (room_for 1 (first_part 1 1 1 odd_parts) ≡ 1) × (room_for 1 (second_part 1 1 1 odd_parts) ≡ 1) × (room_for 1 odd_parts ≡ 3)
rooms = (refl, refl, refl)

-- A line number that falls below the cut: 11 of the whole, 15 of the second part, at the same place.
abbrev falling : LineLists
falling = line_lists (0 ∷ 0 ∷ []) (1 ∷ 0 ∷ []) (pos 5 ∷ pos 7 ∷ []) (0 ∷ 0 ∷ [])

cut-falling : CutAt 1 1 0 falling
unfolding cut_index
cut-falling = cut_there 1 1 falling (omega arith) (omega arith)

fallen : (judged 1 falling ≡ refused 11 1) × ((judged 1 (first_part 1 1 0 falling) >> later 0 (judged 1 (second_part 1 1 0 falling))) ≡ refused 15 1)
unfolding judged ordered bits
fallen = (refl, refl)

-- A list that lacks the first line's last wall, and has the second part's all; one that is right in the first part and falls back in the second.
abbrev lacking : TheirLists
lacking = their_lists (0 ∷ 1 ∷ 2 ∷ []) (low ∷ pos 2 ∷ low ∷ []) (pos 5 ∷ high ∷ high ∷ [])

abbrev falls_back : TheirLists
falls_back = their_lists (0 ∷ 0 ∷ 1 ∷ 0 ∷ []) (low ∷ pos 7 ∷ pos 2 ∷ low ∷ []) (pos 5 ∷ high ∷ high ∷ high ∷ [])

cut-theirs : Between 1 1 (0 ∷ 1 ∷ 2 ∷ []) × Between 1 2 (0 ∷ 0 ∷ 1 ∷ 0 ∷ [])
unfolding cut_index
cut-theirs = (cut-between 1 (0 ∷ 1 ∷ 2 ∷ []) (omega arith), cut-between 1 (0 ∷ 0 ∷ 1 ∷ 0 ∷ []) (omega arith))

opinions : (opinion (walls A 2 Three) (theirs lacking) ≡ wrong_at 1)
    × (opinion (walls A 2 (first_part 2 1 2 Three)) (theirs (first_theirs 1 lacking)) ≡ wrong_at 1)
    × (opinion (walls A 2 (second_part 2 1 2 Three)) (theirs (second_theirs 1 1 lacking)) ≡ right)
    × (opinion (walls A 2 Three) (theirs falls_back) ≡ wrong_at 3)
    × (opinion (walls A 2 (first_part 2 1 2 Three)) (theirs (first_theirs 2 falls_back)) ≡ right)
    × (opinion (walls A 2 (second_part 2 1 2 Three)) (theirs (second_theirs 1 2 falls_back)) ≡ wrong_at 1)
unfolding walls_from walls_on crossings_on shape_at lowest_from crossed times opinion_from
opinions = (refl, refl, refl, refl, refl, refl)

-- A line a part; and a part of no line, which has no walls.
line_by-line : (parts_of 2 (1 ∷ 1 ∷ []) Three
    ≡ line_lists (1 ∷ 0 ∷ []) (0 ∷ 0 ∷ []) (pos 5 ∷ pos 7 ∷ []) (0 ∷ 0 ∷ []) ∷ line_lists (0 ∷ 0 ∷ []) (0 ∷ []) (pos 2 ∷ []) (0 ∷ []) ∷ line_lists (1 ∷ 1 ∷ []) [] [] [] ∷ [])
    × (walls A 2 Three ≡ join_walls (1 ∷ 1 ∷ []) (map (walls A 2) (parts_of 2 (1 ∷ 1 ∷ []) Three)))
    × (walls A 2 Three ≡ join_walls (0 ∷ 3 ∷ []) (map (walls A 2) (parts_of 2 (0 ∷ 3 ∷ []) Three)))
unfolding cut_index walls_from walls_on crossings_on shape_at lowest_from crossed times
line_by-line = (refl, refl, refl)

-- The second part is the first that is not right: its second entry is the fourth of all.
decides : join_opinions (their_parts_of (1 ∷ 1 ∷ []) falls_back) (right ∷ wrong_at 1 ∷ wrong_at 0 ∷ []) ≡ wrong_at 3
unfolding cut_index
decides = refl
