-- `cross_line::cross` meets its contract: refused 16 in order, or the answer of both makers.
use mathlib.Core.Path.{sym}
use Rattle.cross_line.proofs.LentLaws.{length-cuts, cuts_in_range}
use Rattle.cross_line.proofs.LineLaws.{too_many_shapes, bad_line, shapes_answered}
use borrow.Author.Rules.{rules}
use Rattle.cross_line.proofs.cross.Goals as goal

pub returns-in_err-need : goal.returns-in_err-need
returns-in_err-need c = too_many_shapes _ _ _ _ _ _ _ _ c.from_residual.ensures.1 c.in_err-need.ensures.asked

pub returns-in_err-need-2 : goal.returns-in_err-need-2
returns-in_err-need-2 c = bad_line _ _ _ _ _ _ _ _ c.from_residual-in_err-need-2.ensures.1 c.in_ok-need.ensures.asked _ c.good_probe.ensures c.in_err-need-2.ensures.asked

pub returns : goal.returns
returns c =
    shapes_answered _ _ _ _ _ _ c.in_ok-need.ensures.asked _ c.good_probe.ensures c.in_ok-need-2.ensures.asked _ _
    (c.answer.ensures _ (sym (length-cuts _ _ _)) (λ i r here gives. search rules) (cuts_in_range _ _ _))
