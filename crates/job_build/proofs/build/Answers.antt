-- `job_build::build` meets its promise: an accepted sheet's tree is built and given.
use Rattle.job_build.proofs.BuildLaws.{few_nodes, sheet_built}
use Rattle.job_build.proofs.build.Goals as goal

pub give_built-requires : goal.give_built-requires
give_built-requires c = few_nodes _ _ _ _ _ _ c.in_ok-prepared.ensures.says

pub returns : goal.returns
returns c = sheet_built _ _ _ _ _ _ c.in_ok-prepared.ensures.says _ _ _ _ _ _ _ c.give_built.ensures
