-- Row by row.
use Rattle.line_columns.proofs.RowLaws.{Passed}
use Rattle.line_columns.proofs.Starts.next_inside.Given as goal

abbrev pub invariant-loop-q : goal.invariant-loop-q
invariant-loop-q l = Passed l.self.names l.self.rows.now l.self.count l.r l.q
