-- `toggle_run::fill_tables` meets its contract.
use borrow.Author.Rules.{rules}
use Rattle.toggle_run.proofs.RanLaws.{tree_shaped, tables}
use Rattle.toggle_run.proofs.fill_tables.Goals as goal

pub fill_labels-requires : goal.fill_labels-requires
fill_labels-requires c = search (tree_shaped, rules)

pub fill_links-requires : goal.fill_links-requires
fill_links-requires c = search tree_shaped

pub returns : goal.returns
returns c = search tables
