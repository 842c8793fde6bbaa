-- `cross_hits::gather` meets its contract: the shapes below the sixteens that are left are gathered or passed.
use mathlib.Core.Path.{◌≡◌}
use lib.ListN.{length}
use Rattle.cross_columns.specs.Columns.{cuts_in}
use Rattle.cross_hits.proofs.BlockLaws.{Gathering}
use Rattle.cross_hits.proofs.gather.Given as goal

abbrev pub invariant-loop-rest : goal.invariant-loop-rest
invariant-loop-rest l = (length l.initial.bytes ≡ 256) × ((length l.initial.keys ≡ 512) × Gathering l.probe (cuts_in l.probe l.alone.shapes l.columns.lows l.columns.highs l.columns.halves) l.columns.lows l.columns.highs l.alone l.masks l.columns.halves l.initial.ranks.lessers l.initial.ranks.greaters l.ranks.lessers l.ranks.greaters l.bytes l.keys l.rest l.m)

abbrev pub decreases-loop-rest : goal.decreases-loop-rest
decreases-loop-rest l = l.rest
