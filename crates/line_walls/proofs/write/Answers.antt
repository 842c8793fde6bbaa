-- The formula arranged, in few rows or in as many as there can be, and the walls of the whole pass.
use Rattle.line_blocks.proofs.PassLaws.{few_rows, all-rows}
use Rattle.line_walls.proofs.LoopLaws.{call-room, walls-given}
use borrow.Author.Rules.{rules}
use Rattle.line_walls.proofs.write.Goals as goal

pub blocks-requires : goal.blocks-requires
blocks-requires c = (search few_rows, search call-room, search rules)

pub returns-then-call-le-FEW_ROWS-clause-given : goal.returns-then-call-le-FEW_ROWS-clause-given
returns-then-call-le-FEW_ROWS-clause-given c = search walls-given

pub blocks-requires-2 : goal.blocks-requires-2
blocks-requires-2 c = (search all-rows, search call-room, search rules)

pub returns-clause-given : goal.returns-clause-given
returns-clause-given c = search walls-given
