-- A block full, or what is left.
use Rattle.line_columns.proofs.RunLaws.{runs_none, runs-free, runs-line}
use borrow.Author.Rules.{rules}
use borrow.Author.Tests.{ltb-true}
use Rattle.line_columns.proofs.run_length.Goals as goal
use Rattle.line_columns.proofs.run_length.Goals.{then-count-f, else-count-f}

pub returns-then-n-eq0 : goal.returns-then-n-eq0
returns-then-n-eq0 c = search (runs_none, rules)

pub returns-then-line-f : goal.returns-then-line-f
returns-then-line-f c = elim c.if-count-f.branch [ then-count-f w ↦ search (runs-free, rules) | else-count-f w ↦ search (runs-line, ltb-true, rules) ]

pub returns-else-line-f : goal.returns-else-line-f
returns-else-line-f c = search (runs_none, rules)
