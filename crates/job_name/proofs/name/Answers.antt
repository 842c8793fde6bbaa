-- `job_name::name` meets its contract: where the name stands, and the part there.
use Rattle.job_name.proofs.Parts.{stands_in, name-given}
use Rattle.job_name.proofs.name.Goals as goal

pub part_of-requires : goal.part_of-requires
part_of-requires c = search stands_in

pub returns : goal.returns
returns c = search name-given
