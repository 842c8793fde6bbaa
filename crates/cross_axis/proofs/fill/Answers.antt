-- `cross_axis::fill` meets its contract: by whether the line goes along the axis at all.
use Rattle.cross_axis.proofs.AxisLaws.{stepped_filled}
use borrow.Author.Rules.{rules}
use Rattle.cross_axis.proofs.fill.Goals as goal

pub returns-then-is_zero : goal.returns-then-is_zero
returns-then-is_zero c = stepped_filled _ (λ low high span p n. search rules) c.fill_by.ensures
