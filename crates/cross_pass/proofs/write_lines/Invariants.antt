-- `cross_pass::write_lines` meets its contract: the first k lines are written.
use Rattle.lines.specs.Lines.{line_lists}
use Rattle.cross_pass.specs.Passing.{Passing}
use Rattle.cross_pass.proofs.PutLaws.{Writing}
use Rattle.cross_pass.proofs.write_lines.Given as goal

abbrev pub invariant-loop-k : goal.invariant-loop-k
invariant-loop-k l =
    Writing l.drawing.kinds.now l.drawing.numbers.now l.lines l.k-end (line_lists l.initial.rows l.initial.line_numbers l.initial.positions l.initial.shapes) (line_lists l.rows l.line_numbers l.positions l.shapes) l.k l.at × Passing l.drawing.kinds.now l.drawing.numbers.now l.pass
