use Rattle.edit_places.proofs.ScanLaws.{scanning_start, next-below, scanning_more, scanning_end}
use Rattle.edit_places.proofs.scan.Goals as goal

pub loop-j-init : goal.loop-j-init
loop-j-init c = search scanning_start

pub meet-next-requires : goal.meet-next-requires
meet-next-requires c = search next-below

pub loop-j-preserved : goal.loop-j-preserved
loop-j-preserved c = search scanning_more

pub returns : goal.returns
returns c = search scanning_end
