use mathlib.Core.Path.{refl}
use native.Mathlib.Omega.{arith}
use Rattle.cross_pass.proofs.CountLaws.{empty_passes, counting_starts, next-sound}
use Rattle.cross_pass.proofs.PutLaws.{writing_starts, line-held, line-room, writing_on}
use Rattle.cross_pass.proofs.write_lines.Goals as goal

pub loop-k-init : goal.loop-k-init
loop-k-init c = (writing_starts (counting_starts _ _ _ _ c.line_count-k-end.ensures (omega (arith, c.line_count-k-end.ensures, c.requires.kinds_len_bound.1)) c.requires.lines_value) c.requires.fits, empty_passes c.requires.kinds_len_bound.0 c.fill_columns.ensures)

pub gather-m-requires-clause-judged : goal.gather-m-requires-clause-judged
gather-m-requires-clause-judged c = next-sound c.loop-k.invariant.0.counting c.loop-k-test.true

pub write_line-requires : goal.write_line-requires
write_line-requires c = (line-held c.loop-k.invariant.0 c.loop-k-test.true c.gather-m.ensures.sound, line-room c.loop-k.invariant.0 c.loop-k-test.true c.gather-m.ensures.sound)

pub loop-k-preserved : goal.loop-k-preserved
loop-k-preserved c =
    let put = c.write_line.ensures.put _ _ _ c.gather-m.ensures.sound refl in
    (writing_on c.loop-k.invariant.0 c.loop-k-test.true c.gather-m.ensures.sound put c.write_line.auto.rows c.write_line.auto.line_numbers c.write_line.auto.positions c.write_line.auto.shapes, c.write_line.ensures.still _ _ c.gather-m.ensures.passing)
