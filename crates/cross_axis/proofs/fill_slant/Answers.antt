-- `cross_axis::fill_slant` meets its contract: the step is that of a line that is not level.
use Rattle.cross_axis.proofs.AxisLaws.{stepped_filled}
use borrow.Author.Rules.{rules}
use Rattle.cross_axis.proofs.fill_slant.Goals as goal

pub returns : goal.returns
returns c = stepped_filled _ (λ low high span p n. search rules) c.fill_by.ensures
