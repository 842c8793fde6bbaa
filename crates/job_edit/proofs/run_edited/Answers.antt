-- `job_edit::run_edited` meets its promise: a refused sheet ends it, and toggles and edits are judged and run on an accepted one's tree.
use Rattle.job_edit.proofs.EditLaws.{sheet-refused, sheet_buildable, sheet-edited}
use mathlib.Core.Path.{refl}
use borrow.Author.Rules.{rules}
use Rattle.job_edit.specs.Editing.{running_edited}
use Rattle.job_edit.proofs.run_edited.Goals as goal

pub run_on-requires-clause-buildable : goal.run_on-requires-clause-buildable
run_on-requires-clause-buildable c = search (sheet_buildable, rules)

pub returns-in_err-prepared : goal.returns-in_err-prepared
unfolding running_edited
returns-in_err-prepared c = search (sheet-refused, rules)

pub returns : goal.returns
returns c = sheet-edited _ _ _ _ c.in_ok-prepared.ensures.says _ refl _ _ _ _ c.run_on.ensures
