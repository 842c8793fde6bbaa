use Rattle.sheet_codes.proofs.Filling.{filling_none, filling_room, filling_more, filling_all}
use Rattle.sheet_codes.proofs.fill_codes.Goals as goal

pub loop-i-init : goal.loop-i-init
loop-i-init c = search filling_none

pub bounds-codes-i : goal.bounds-codes-i
bounds-codes-i c = search filling_room

pub loop-i-preserved : goal.loop-i-preserved
loop-i-preserved c = search filling_more

pub returns : goal.returns
returns c = search filling_all
