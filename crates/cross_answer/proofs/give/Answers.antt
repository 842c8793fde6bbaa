-- `cross_answer::give` meets its contract: 9 for the first list that is too short, or all are written.
use Rattle.cross_answer.proofs.GiveLaws.{short_starts, short_positions, short_shapes, given-all}
use borrow.Author.Rules.{rules}
use Rattle.cross_answer.proofs.give.Goals as goal

pub returns-in_err-room : goal.returns-in_err-room
returns-in_err-room c = λ number cuts whole r. short_starts whole r _ _ _ c.from_residual.ensures.1 c.in_err-room.ensures.asked

pub returns-in_err-room-2 : goal.returns-in_err-room-2
returns-in_err-room-2 c = λ number cuts whole r. short_positions whole r _ _ _ c.from_residual-in_err-room-2.ensures.1 c.in_ok-room.ensures.asked c.in_err-room-2.ensures.asked

pub returns-in_err-room-3 : goal.returns-in_err-room-3
returns-in_err-room-3 c = λ number cuts whole r. short_shapes whole r _ _ _ c.from_residual-in_err-room-3.ensures.1 c.in_ok-room.ensures.asked c.in_ok-room-2.ensures.asked c.in_err-room-3.ensures.asked

pub returns : goal.returns
returns c = λ number cuts whole r. given-all whole r _ _ (search rules) (search rules)
