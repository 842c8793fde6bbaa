use Rattle.line_events.proofs.SaidLaws.{noting_start, noting_end, noting_low, noting_narrow, noting_room, noting_on}
use Rattle.word_bits.proofs.OthersLaws.{others_less}
use borrow.Author.Rules.{rules}
use Rattle.line_events.proofs.note_said.Goals as goal

pub loop-d-init : goal.loop-d-init
loop-d-init c = search (noting_start, rules)

pub step_alone-n-requires : goal.step_alone-n-requires
step_alone-n-requires c = (search (noting_low, rules), search (noting_narrow, rules), search (noting_room, rules))

pub loop-d-smaller : goal.loop-d-smaller
loop-d-smaller c = search (others_less, rules)

pub loop-d-preserved : goal.loop-d-preserved
loop-d-preserved c = search (noting_on, rules)

pub returns : goal.returns
returns c = search (noting_end, rules)
