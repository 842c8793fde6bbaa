-- `job_run::run` meets its promise: a refused sheet ends it, and toggles are judged and run on an accepted one's tree.
use borrow.Author.Rules.{rules}
use mathlib.Core.Path.{refl}
use Rattle.job_run.specs.Running.{running}
use Rattle.job_run.proofs.RunLaws.{sheet-refused, few_names, tree, sheet_ran}
use Rattle.job_run.proofs.run.Goals as goal

pub run_toggles-requires : goal.run_toggles-requires
run_toggles-requires c = search (few_names, tree, rules)

pub returns-in_err-prepared : goal.returns-in_err-prepared
unfolding running
returns-in_err-prepared c = search (sheet-refused, rules)

pub returns : goal.returns
returns c = sheet_ran _ _ _ _ _ _ _ _ c.in_ok-prepared.ensures.says _ refl _ _ _ _ c.run_toggles.ensures
