-- `edit_places::fill_places` meets its contract: what the three passes leave are the nodes of the positions.
use Rattle.edit_places.proofs.PlaceLaws.{buildable_falls, buildable_room, scanned_long, places_filled}
use Rattle.edit_places.proofs.fill_places.Goals as goal

pub stand-requires : goal.stand-requires
stand-requires c = search (buildable_falls, scanned_long)

pub enter_all-requires : goal.enter_all-requires
enter_all-requires c = search buildable_room

pub returns : goal.returns
returns c = search places_filled
