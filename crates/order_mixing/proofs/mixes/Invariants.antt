-- `order_mixing::mixes` meets its contract. The loop keeps: the turns of the second foundry so far, and each names one of the two.
use Rattle.order_mixing.specs.Turns.{Counting}
use Rattle.order_mixing.proofs.mixes.Given as goal

abbrev pub invariant-loop-turn : goal.invariant-loop-turn
invariant-loop-turn l = Counting l.order l.turn-index l.seconds
