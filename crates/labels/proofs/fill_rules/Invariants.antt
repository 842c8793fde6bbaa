-- `labels::fill_rules` meets its contract. The loop keeps: the first i entries are worked out.
use Rattle.labels.proofs.Tabled.{RulesTo}
use Rattle.labels.proofs.fill_rules.Given as goal

abbrev pub invariant-loop-i : goal.invariant-loop-i
invariant-loop-i l = RulesTo l.i l.rules
