-- No other than a full block's, and the bit of its last column.
use Rattle.line_blocks.proofs.PassBlocks.{past_is}
use borrow.Author.Rules.{rules}
use Rattle.line_blocks.proofs.goes_past.Goals as goal

pub returns-then-n-eq-COLUMNS : goal.returns-then-n-eq-COLUMNS
returns-then-n-eq-COLUMNS c = search (past_is, rules)
