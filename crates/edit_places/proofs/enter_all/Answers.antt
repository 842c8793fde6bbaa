use Rattle.edit_places.proofs.PlaceLaws.{entering-start, entering_more, entering_end}
use Rattle.edit_places.proofs.enter_all.Goals as goal

pub loop-i-init : goal.loop-i-init
loop-i-init c = search entering-start

pub loop-i-preserved : goal.loop-i-preserved
loop-i-preserved c = search entering_more

pub returns : goal.returns
returns c = search entering_end
