-- The event that is listed, and what it bounds.
use Rattle.line_writing.proofs.WriteLaws.{listed_event, bound_listed}
use Rattle.line_writing.proofs.spots.bound_at.Goals as goal

pub event_bound-requires : goal.event_bound-requires
event_bound-requires c = search listed_event

pub returns : goal.returns
returns c = search bound_listed
