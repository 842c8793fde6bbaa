-- `cross_drawn::one_line` meets its contract: the line is judged, then its shapes.
use mathlib.Core.Path.{sym}
use borrow.Author.Rules.{rules}
use Rattle.cross_line.proofs.LentLaws.{length-cuts}
use Rattle.cross_drawn.proofs.LineLaws.{bad_probe, lined}
use Rattle.cross_drawn.proofs.one_line.Goals as goal

pub returns-then-not-good_probe : goal.returns-then-not-good_probe
returns-then-not-good_probe c = search (bad_probe, rules)

pub returns : goal.returns
returns c =
    lined _ _ _ _ c.good_probe.ensures (search rules) _ _ _ _ (search rules)
    (c.gather.ensures.gathers 16 _ (sym (length-cuts _ _ _)) (λ i r here gives. search rules))
