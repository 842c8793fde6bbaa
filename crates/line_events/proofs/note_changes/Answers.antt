use Rattle.line_events.proofs.SaidLaws.{changing_start, changing_end, changing_room, changing_on}
use Rattle.word_bits.proofs.OthersLaws.{others_less}
use borrow.Author.Rules.{rules}
use Rattle.line_events.proofs.note_changes.Goals as goal

pub loop-d-init : goal.loop-d-init
loop-d-init c = search (changing_start, rules)

pub bounds-events-n : goal.bounds-events-n
bounds-events-n c = search (changing_room, rules)

pub loop-d-smaller : goal.loop-d-smaller
loop-d-smaller c = search (others_less, rules)

pub loop-d-preserved : goal.loop-d-preserved
loop-d-preserved c = search (changing_on, rules)

pub returns : goal.returns
returns c = search (changing_end, rules)
