-- `cross_pass::gather` meets its contract: over two axes that are together the line has what its shapes say.
use Rattle.cross_pass.proofs.CountLaws.{can_pair, line-over, line-sound, line-passed}
use Rattle.cross_pass.proofs.gather.Goals as goal

pub keep-requires-clause-can : goal.keep-requires-clause-can
keep-requires-clause-can c = can_pair c.requires.passing.0 c.probe_at-probe.ensures c.requires.judged

pub over_axes-requires : goal.over_axes-requires
over_axes-requires c = line-over c.requires.passing.0 c.probe_at-probe.ensures c.requires.judged (rw c.in-Some.is at c.keep.ensures)

pub returns-clause-passing : goal.returns-clause-passing
returns-clause-passing c = line-passed c.requires.passing.0 c.probe_at-probe.ensures c.requires.judged (rw c.in-Some.is at c.keep.ensures) c.over_axes.ensures c.in-Some.is

pub returns-clause-sound : goal.returns-clause-sound
returns-clause-sound c = line-sound c.requires.passing.0 c.probe_at-probe.ensures c.requires.judged (rw c.in-Some.is at c.keep.ensures) c.over_axes.ensures
