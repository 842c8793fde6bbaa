-- `cross_axis::fill_by` meets its contract: the boxes before k are filled.
use Rattle.cross_axis.specs.Axes.{Stepped}
use Rattle.cross_axis.proofs.fill_by.Given as goal

abbrev pub invariant-loop-k : goal.invariant-loop-k
invariant-loop-k g l = Stepped (goal.F-post g l.says) l.columns.lows l.columns.highs l.at l.k l.initial.ranks.lessers l.initial.ranks.greaters l.ranks.lessers l.ranks.greaters
