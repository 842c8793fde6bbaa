-- `cross_balls::square` meets its contract: below the middle the number is the middle less the rank, else the rank less the middle.
use borrow.Author.Rules.{rules}
use Rattle.cross_balls.proofs.BallLaws.{square_low, square_high}
use Rattle.cross_balls.proofs.square.Goals as goal

pub returns-then-rank-lt-MIDDLE : goal.returns-then-rank-lt-MIDDLE
returns-then-rank-lt-MIDDLE c = search (square_low, rules)

pub returns : goal.returns
returns c = search (square_high, rules)
