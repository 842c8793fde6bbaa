-- The formula arranged, in few rows or in as many as there can be, and the opinion of the whole pass.
use Rattle.line_blocks.proofs.PassLaws.{few_rows, all-rows}
use Rattle.line_judge.proofs.JudgeLaws.{opinion-given}
use borrow.Author.Rules.{rules}
use Rattle.line_judge.proofs.opine.Goals as goal

pub blocks-requires : goal.blocks-requires
blocks-requires c = (search few_rows, search rules)

pub returns-then-call-le-FEW_ROWS : goal.returns-then-call-le-FEW_ROWS
returns-then-call-le-FEW_ROWS c = search opinion-given

pub blocks-requires-2 : goal.blocks-requires-2
blocks-requires-2 c = (search all-rows, search rules)

pub returns : goal.returns
returns c = search opinion-given
