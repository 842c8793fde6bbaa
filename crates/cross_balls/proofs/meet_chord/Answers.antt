-- `cross_balls::meet_chord` meets its contract: the difference is negative, or the half chord is 0, or the two sides are the centre less and plus it.
use Rattle.cross_balls.proofs.BallLaws.{chord_missed, chord_none, chord_two}
use borrow.Author.Rules.{rules}
use Rattle.cross_balls.proofs.meet_chord.Goals as goal

pub returns-then-whole-off : goal.returns-then-whole-off
returns-then-whole-off c = search (chord_missed, rules)

pub returns-then-half-eq0 : goal.returns-then-half-eq0
returns-then-half-eq0 c = search (chord_none, rules)

pub returns : goal.returns
returns c = search (chord_two, rules)
