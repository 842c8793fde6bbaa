-- `edit_checking::first_unfit` meets its contract. The loop keeps: the first i edits fit, and `before` is the last one's moment.
use Rattle.edit_checking.proofs.FitLaws.{Judging}
use Rattle.edit_checking.proofs.first_unfit.Given as goal

abbrev pub invariant-loop-i : goal.invariant-loop-i
invariant-loop-i l = Judging l.formula l.most l.edits.moments.now l.edits.positions.now l.edits.codes.now l.i l.before
