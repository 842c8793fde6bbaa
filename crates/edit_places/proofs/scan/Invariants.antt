-- `edit_places::scan` meets its contract. The loop keeps: the first j codes are met.
use Rattle.edit_places.proofs.ScanLaws.{Scanning}
use Rattle.edit_places.proofs.scan.Given as goal

abbrev pub invariant-loop-j : goal.invariant-loop-j
invariant-loop-j l = Scanning l.codes l.j l.next l.starts l.ups l.spots
