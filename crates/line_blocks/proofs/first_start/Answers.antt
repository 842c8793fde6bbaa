-- Where every line starts in air no row has a shape inside.
use Rattle.line_blocks.proofs.PassLaws.{said-first}
use Rattle.line_blocks.proofs.first_start.Goals as goal

pub returns-then-air : goal.returns-then-air
returns-then-air c = search said-first
