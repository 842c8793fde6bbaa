-- `edit_places::stand` meets its contract. The loop keeps: up to node i it is written where each node stands.
use Rattle.edit_places.proofs.PlaceLaws.{Standing}
use Rattle.edit_places.proofs.stand.Given as goal

abbrev pub invariant-loop-i : goal.invariant-loop-i
invariant-loop-i l = Standing l.records.kinds l.records.firsts l.ups l.initial.spots l.fn.size.leaves l.fn.size.nodes l.i l.spots
