-- `sheet_codes::fill_codes` meets its contract. The invariant: the first i codes stand in the array, the others in the formula's bytes.
use Rattle.sheet_codes.proofs.Filling.{Filling}
use Rattle.sheet_codes.proofs.fill_codes.Given as goal

abbrev pub invariant-loop-i : goal.invariant-loop-i
invariant-loop-i l = Filling l.formula l.codes l.i
