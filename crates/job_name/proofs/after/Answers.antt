use Rattle.job_name.proofs.Walking.{walk_inside, walk_less, walk_same, walk_done, walk_within}
use Rattle.job_name.proofs.after.Goals as goal

pub past-at-requires : goal.past-at-requires
past-at-requires c = search walk_inside

pub loop-left-preserved : goal.loop-left-preserved
loop-left-preserved c = (search walk_less, search walk_same)

pub returns : goal.returns
returns c = (search walk_done, search walk_within)
