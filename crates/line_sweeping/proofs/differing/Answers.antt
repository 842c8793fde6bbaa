-- Inverted where there is metal.
use Rattle.line_sweeping.proofs.BitLaws.{differs_on, differs_off}
use Rattle.line_sweeping.proofs.differing.Goals as goal

pub returns-then-metal : goal.returns-then-metal
returns-then-metal c = λ b h. rw c.if-metal.true (differs_on _ b h)

pub returns-else-metal : goal.returns-else-metal
returns-else-metal c = λ b h. rw c.if-metal.false (differs_off _)
