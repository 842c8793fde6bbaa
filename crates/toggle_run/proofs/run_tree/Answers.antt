-- `toggle_run::run_tree` meets its contract.
use Rattle.toggle_run.proofs.RanLaws.{run_list, ran}
use Rattle.toggle_run.proofs.run_tree.Goals as goal

-- what is asked at the entry lies far back: `search` reaches it only if nothing else is in scope
pub copy_labels-requires : goal.copy_labels-requires
copy_labels-requires c = search run_list

pub returns : goal.returns
returns c = search ran
