-- `cross_line::cross_balls` meets its contract: refused 18, or the answer of both makers.
use Rattle.cross_balls.proofs.RangeLaws.{cuts_in_range}
use borrow.Author.Rules.{rules}
use Rattle.cross_line.proofs.LineLaws.{balls_counted, too_many_balls, balls_answered}
use Rattle.cross_line.proofs.cross_balls.Goals as goal

pub returns-in_err-need : goal.returns-in_err-need
returns-in_err-need c = too_many_balls _ _ _ _ _ (balls_counted _ _ c.div_ceil-n.ensures) _ _ c.from_residual.ensures.1 c.in_err-need.ensures.asked

pub returns : goal.returns
returns c =
    let counted = balls_counted _ _ c.div_ceil-n.ensures in
    balls_answered _ _ _ _ _ counted c.in_ok-need.ensures.asked _ _ (c.answer.ensures _ counted (λ i r here gives. search rules) (cuts_in_range _))
