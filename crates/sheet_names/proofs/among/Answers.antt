use Rattle.sheet_names.proofs.NameSteps.{walk_inside, walk_less, taken_here, taken-on, taken_none}
use Rattle.sheet_names.proofs.among.Goals as goal

pub past-e-requires : goal.past-e-requires
past-e-requires c = search walk_inside

pub returns-then-eq : goal.returns-then-eq
returns-then-eq c = search taken_here

pub loop-left-preserved : goal.loop-left-preserved
loop-left-preserved c = (search walk_less, search taken-on)

pub returns : goal.returns
returns c = search taken_none
