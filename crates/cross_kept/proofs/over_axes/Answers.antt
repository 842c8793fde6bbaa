-- `cross_kept::over_axes` meets its contract: two axes together and the third say what the line has of each shape.
use Rattle.cross_kept.proofs.CrossesLaws.{over_crosses}
use Rattle.cross_kept.proofs.LineLaws.{over-crossed}
use Rattle.cross_kept.proofs.over_axes.Goals as goal

pub gather-requires-clause-bytes_len : goal.gather-requires-clause-bytes_len
gather-requires-clause-bytes_len c = let lent = c.requires.lent in (lent.bytes_sized, lent.keys_sized, lent.clear)

pub gather-requires-clause-crosses : goal.gather-requires-clause-crosses
gather-requires-clause-crosses c = let lent = c.requires.lent in over_crosses c.requires _ c.start.ensures _ c.along.ensures

pub returns : goal.returns
returns c = over-crossed c.requires _ c.start.ensures c.gather.ensures.beside.0 c.gather.ensures.beside.1 _ _ c.gather.ensures.ends c.unwrap_or.ensures
