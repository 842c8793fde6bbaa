-- `cross_pass::count_lines` meets its contract: the first k lines are counted.
use Rattle.cross_pass.specs.Passing.{Passing}
use Rattle.cross_pass.proofs.CountLaws.{Counting}
use Rattle.cross_pass.proofs.count_lines.Given as goal

abbrev pub invariant-loop-k : goal.invariant-loop-k
invariant-loop-k l = Counting l.drawing.kinds.now l.drawing.numbers.now l.lines l.count l.k l.total × Passing l.drawing.kinds.now l.drawing.numbers.now l.pass
