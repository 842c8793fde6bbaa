use lib.Dec.{lit<}
use Rattle.order_mixing.proofs.Orders.{counting_start, counting_more, neither}
use Rattle.order_mixing.proofs.mixes.Goals as goal

pub loop-turn-init : goal.loop-turn-init
loop-turn-init c = counting_start _

pub returns-then-turn-gt1 : goal.returns-then-turn-gt1
returns-then-turn-gt1 c = search (neither, lit<)

pub loop-turn-preserved : goal.loop-turn-preserved
loop-turn-preserved c = search counting_more
