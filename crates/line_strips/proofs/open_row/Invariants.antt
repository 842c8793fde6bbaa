-- `line_strips::open_row` meets its contract.
use Rattle.line_strips.proofs.Opens.{RowTo}
use Rattle.line_strips.proofs.open_row.Given as goal

abbrev pub invariant-loop-k : goal.invariant-loop-k
invariant-loop-k l = RowTo l.s l.k l.initial.words l.words
