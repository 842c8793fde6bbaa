-- Item by item, with no way out before the end.
use Rattle.line_checking.specs.Items.{NoneStray}
use Rattle.line_checking.proofs.strays.Given as goal

abbrev pub invariant-loop-i : goal.invariant-loop-i
invariant-loop-i l = NoneStray l.line l.at l.i l.found
