-- `cross_hits::picked` meets its contract: the first j bits.
use Rattle.cross_hits.specs.Hits.{Chosen}
use Rattle.cross_hits.proofs.picked.Given as goal

abbrev pub invariant-loop-j : goal.invariant-loop-j
invariant-loop-j g l = Chosen (goal.F-post g l.wanted) l.j l.bits
