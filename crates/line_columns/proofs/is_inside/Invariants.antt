-- Byte by byte.
use Rattle.line_columns.proofs.RowLaws.{Greatest}
use Rattle.line_columns.proofs.is_inside.Given as goal

abbrev pub invariant-loop-b : goal.invariant-loop-b
invariant-loop-b l = Greatest l.row l.b-index l.most
