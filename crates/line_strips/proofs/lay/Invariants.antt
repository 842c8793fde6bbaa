-- `line_strips::lay` meets its contract.
use Prim.Native.Nat.{◌-◌}
use Rattle.line_lists.specs.Block.{cell}
use Rattle.line_strips.specs.Filling.{flips_of}
use Rattle.line_strips.proofs.Lays.{Word}
use Rattle.line_strips.proofs.lay.Given as goal

abbrev pub invariant-loop-j : goal.invariant-loop-j
invariant-loop-j l = Word l.from.names (flips_of l.from.names l.from.rows.now l.from.shape.now l.from.cols.now l.from.part.first) (cell l.from.lasts.now) l.k l.m l.j l.initial.words l.words

abbrev pub decreases-loop-j : goal.decreases-loop-j
decreases-loop-j l = l.m - l.j
