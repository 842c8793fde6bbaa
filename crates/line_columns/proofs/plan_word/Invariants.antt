-- Start by start, with the crossings between.
use Prim.Native.Nat.{◌-◌}
use Rattle.line_columns.specs.Planning.{WordPlanning}
use Rattle.line_columns.proofs.plan_word.Given as goal

abbrev pub invariant-loop-at : goal.invariant-loop-at
invariant-loop-at l = WordPlanning l.starts.names l.starts.rows.now l.line l.starts.count l.from.i l.from.q l.lasts l.initial.at.next.c l.cols l.at

abbrev pub decreases-loop-at : goal.decreases-loop-at
decreases-loop-at l = l.end - l.at.next.c
