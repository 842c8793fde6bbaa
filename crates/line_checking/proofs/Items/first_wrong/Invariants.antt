-- Item by item.
use Rattle.line_checking.proofs.OrderLaws.{FineTo}
use Rattle.line_checking.proofs.Items.first_wrong.Given as goal

abbrev pub invariant-loop-i : goal.invariant-loop-i
invariant-loop-i l = FineTo l.self.names l.self.rows l.self.line.now l.self.at.now l.self.shape.now l.i
