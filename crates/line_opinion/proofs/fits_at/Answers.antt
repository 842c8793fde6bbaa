-- The line, then the places in turn.
use Rattle.std.proofs.Common.{arith}
use Rattle.std.proofs.lemmas.Grind.{common_steps}
use Rattle.line_opinion.proofs.fits_at.Goals as goal
use Rattle.line_opinion.proofs.fits_at.Goals.{then-list-j, else-list-j, then-same_place, else-same_place}

pub returns-else-start-end : goal.returns-else-start-end
returns-else-start-end c = elim c.if-list-j.branch [
  | then-list-j w ↦ elim c.if-same_place.branch [ then-same_place x ↦ grind (arith, common_steps) | else-same_place x ↦ grind (arith, common_steps) ]
  | else-list-j w ↦ elim c.if-same_place.branch [ then-same_place x ↦ grind (arith, common_steps) | else-same_place x ↦ grind (arith, common_steps) ]
]
