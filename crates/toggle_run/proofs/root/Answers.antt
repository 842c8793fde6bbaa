-- `toggle_run::root` meets its contract.
use Rattle.toggle_run.proofs.Filling.{last-take}
use Rattle.toggle_run.proofs.root.Goals as goal

pub returns : goal.returns
returns c = search last-take
