-- The strips filled, and the formula's row of them.
use Rattle.line_blocks.proofs.RowLaws.{evaluable_filled, row_made}
use Rattle.line_blocks.proofs.block_row.Goals as goal

pub evaluate-requires : goal.evaluate-requires
evaluate-requires c = search evaluable_filled

pub returns : goal.returns
returns c = search row_made
