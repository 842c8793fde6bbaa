-- The first position, the last line, the greatest shape, and that none strays.
use Rattle.std.proofs.Common.{rules}
use Rattle.line_checking.proofs.OrderLaws.{all_fine_by}
use Rattle.line_checking.proofs.Items.all_fine.Goals.{then-not-at_mark, else-not-at_mark, then-last-self, else-last-self}
use Rattle.line_checking.proofs.Items.all_fine.Goals as goal

pub returns-then-from-self : goal.returns-then-from-self
returns-then-from-self c =
    elim c.if-last-self.branch [
      | then-last-self w ↦ elim c.if-not-at_mark.branch [ then-not-at_mark v ↦ search (all_fine_by, rules) | else-not-at_mark v ↦ absurd (search rules) ]
      | else-last-self w ↦ absurd (search rules)
    ]
