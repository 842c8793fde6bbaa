-- `cross_columns::fill_columns` meets its contract: the first i shapes have their entries.
use Rattle.cross_columns.specs.Columns.{Columns}
use Rattle.cross_columns.proofs.fill_columns.Given as goal

abbrev pub invariant-loop-i : goal.invariant-loop-i
invariant-loop-i l = Columns l.drawing.kinds.now l.drawing.numbers.now l.i l.columns.lows l.columns.highs l.columns.halves
