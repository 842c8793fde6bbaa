-- `sheet_names::taken` meets its contract: a name whose key is unlike all others is nobody's.
use Rattle.sheet_names.proofs.NameSteps.{taken_unkeyed}
use Rattle.sheet_names.proofs.taken.Goals as goal

pub returns-else-key_among : goal.returns-else-key_among
returns-else-key_among c = search taken_unkeyed
