-- `sheet_laying::put_codes` meets its contract. The invariant: the first i codes stand in the bytes.
use Rattle.sheet_laying.proofs.Putting.{Putting}
use Rattle.sheet_laying.proofs.put_codes.Given as goal

abbrev pub invariant-loop-i : goal.invariant-loop-i
invariant-loop-i l = Putting l.codes l.initial.bytes l.bytes l.at l.i
