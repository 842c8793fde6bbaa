-- No refusal of the line job has number 0.
use Prim.Native.Nat.{ℕ, ◌+◌, ◌/◌, ◌%◌}
use native.Mathlib.Omega.{arith}
use mathlib.Core.Bool.{not, ◌&&◌}
use mathlib.Core.List.{List, [], ◌∷◌}
use mathlib.Core.Option.{Option, none, some}
use lib.Dec.{ltb, leb, eqb}
use lib.ListN.{length}
use Rattle.outcome.specs.Outcome.{given, need, room, ◌>>◌}
use Rattle.outcome.specs.Numbered.{Numbered}
use Rattle.outcome.proofs.NumberedLaws.{given-numbered, need-numbered, asks, room-asks, then_numbered}
use Rattle.formula.specs.Formula.{Formula}
use Rattle.lines.specs.Lines.{LineLists, row_count, Crossing, entries, falls, bits, rowed, strays, ordered, judged, AnswerLists, roomy, roomy_lists, walls, classified}

ordered-numbered : (names rows : ℕ) (x : Option Crossing) (i : ℕ) (ys : List Crossing) → Numbered (ordered names rows x i ys)
unfolding ordered
ordered-numbered names rows x i [] = given-numbered _
ordered-numbered names rows x i (y ∷ ys) =
    let rest = ordered names rows (some y) (i + 1) ys in
    let rises = need (not (falls x y)) 11 i >> rest in
    asks (ltb y.shape names) 10 i (need (not (strays rows y)) 15 i >> rises) (omega arith)
    (asks (not (strays rows y)) 15 i rises (omega arith) (asks (not (falls x y)) 11 i rest (omega arith) (ordered-numbered names rows (some y) (i + 1) ys)))

judged-numbered : (names : ℕ) (c : LineLists) → Numbered (judged names c)
unfolding judged
judged-numbered names c =
    let items = ordered names (row_count names c.rows) none 0 (entries c) in
    asks (eqb (length c.positions) (length c.lines) && eqb (length c.shapes) (length c.lines)) 13 0 (rowed names c.rows >> items) (omega arith)
    (asks (eqb (length c.rows % names) 0 && (leb (row_count names c.rows) 4294967296 && bits c.rows)) 14 0 items (omega arith)
    (ordered-numbered names (row_count names c.rows) none 0 (entries c)))

roomy-numbered : (n lines starts ends start_shapes end_shapes : ℕ) → Numbered (roomy n lines starts ends start_shapes end_shapes)
roomy-numbered n lines starts ends start_shapes end_shapes =
    room-asks n lines (room n starts >> (room n ends >> (room n start_shapes >> room n end_shapes)))
    (room-asks n starts (room n ends >> (room n start_shapes >> room n end_shapes))
    (room-asks n ends (room n start_shapes >> room n end_shapes) (room-asks n start_shapes (room n end_shapes) (need-numbered (leb n end_shapes) 9 n (omega arith)))))

pub classified-numbered : (f : Formula) (names : ℕ) (c : LineLists) (lent : AnswerLists) → Numbered (classified f names c lent)
unfolding classified
classified-numbered f names c lent =
    let needed = length c.lines / 2 + row_count names c.rows in
    let rooms = roomy_lists needed lent in
    let found = given (walls f names c) in
    then_numbered (judged names c) (rooms >> found) (judged-numbered names c) (then_numbered rooms found (roomy-numbered needed _ _ _ _ _) (given-numbered (walls f names c)))
