-- `edit_places::enter_all` meets its contract. The loop keeps: the first i nodes are entered at their positions.
use Rattle.edit_places.proofs.PlaceLaws.{Entering}
use Rattle.edit_places.proofs.enter_all.Given as goal

abbrev pub invariant-loop-i : goal.invariant-loop-i
invariant-loop-i l = Entering l.records.kinds l.spots l.nodes l.i l.places
