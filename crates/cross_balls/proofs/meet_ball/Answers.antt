-- `cross_balls::meet_ball` meets its contract: a number out of its range is a fault; else the ball is met as its chord has it.
use Rattle.cross_balls.proofs.BallLaws.{small}
use Rattle.cross_balls.proofs.meet_ball.Goals as goal

pub meet_chord-requires : goal.meet_chord-requires
meet_chord-requires c = search small
