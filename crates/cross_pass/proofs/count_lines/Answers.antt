use Rattle.cross_pass.proofs.CountLaws.{empty_passes, counting_starts, next-sound, counting_on}
use Rattle.cross_pass.proofs.count_lines.Goals as goal

pub loop-k-init : goal.loop-k-init
loop-k-init c = (counting_starts _ _ _ _ c.requires.kinds_len_bound.1 c.requires.kinds_len_bound.2 c.requires.lines_value, empty_passes c.requires.kinds_len_bound.0 c.fill_columns.ensures)

pub gather-total-requires-clause-judged : goal.gather-total-requires-clause-judged
gather-total-requires-clause-judged c = next-sound c.loop-k.invariant.0 c.loop-k-test.true

pub loop-k-preserved : goal.loop-k-preserved
loop-k-preserved c = (counting_on c.loop-k.invariant.0 c.loop-k-test.true c.gather-total.ensures.sound, c.gather-total.ensures.passing)
