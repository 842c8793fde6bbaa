-- Nothing is said of the list's last; and a position below the next is the last there, whatever the lines.
use Rattle.line_events.proofs.EndLaws.{hold_not, all_rise, all_end}
use borrow.Author.Rules.{rules}
use Rattle.line_events.proofs.all_alone.Goals as goal

pub returns-then-e-line : goal.returns-then-e-line
returns-then-e-line c = search (hold_not, rules)

pub returns-then-one_line : goal.returns-then-one_line
returns-then-one_line c = all_rise _ _ _ _ _ (λ t x lo hi. search (c.all_hold.ensures t x lo hi, rules))

pub returns : goal.returns
returns c = all_end _ _ _ _ _ (λ t x lo hi. search (c.all_hold-2.ensures t x lo hi, rules))
