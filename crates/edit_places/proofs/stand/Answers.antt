use Rattle.edit_places.proofs.PlaceLaws.{standing-start, standing_more, standing_end}
use Rattle.edit_places.proofs.stand.Goals as goal

pub loop-i-init : goal.loop-i-init
loop-i-init c = search standing-start

pub loop-i-preserved : goal.loop-i-preserved
loop-i-preserved c = search standing_more

pub returns : goal.returns
returns c = search standing_end
