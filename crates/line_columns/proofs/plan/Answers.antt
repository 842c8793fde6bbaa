-- Crossings alone, or column by column.
use Rattle.line_columns.proofs.RunLaws.{run_made, run_said, run_numbered, not_said, not_numbered}
use borrow.Author.Rules.{rules}
use Rattle.line_columns.proofs.plan.Goals as goal

pub returns-then-n-eq0 : goal.returns-then-n-eq0
returns-then-n-eq0 c = (search rules, search not_said, search not_numbered)

pub returns : goal.returns
returns c = (search (run_made, rules), search (run_said, rules), search (run_numbered, rules))
