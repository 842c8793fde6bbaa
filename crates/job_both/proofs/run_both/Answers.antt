-- `job_both::run_both` meets its promise: a refused sheet ends it for both, as an order does that mixes not; else each foundry is served by itself.
use borrow.Author.Rules.{rules}
use Rattle.job_run.proofs.RunLaws.{few_names, tree}
use Rattle.job_both.proofs.BothLaws.{both_refused_lem, not_mixed, served}
use Rattle.job_both.proofs.run_both.Goals as goal

pub run_toggles-to_first-requires : goal.run_toggles-to_first-requires
run_toggles-to_first-requires c = search (few_names, tree, rules)

pub run_toggles-to_second-requires : goal.run_toggles-to_second-requires
run_toggles-to_second-requires c = (search (tree, rules), search (few_names, rules))

pub returns-in-Err : goal.returns-in-Err
returns-in-Err c = search (both_refused_lem, rules)

pub returns-then-not-mixes : goal.returns-then-not-mixes
returns-then-not-mixes c =
    let why = rw c.at.ensures at c.both_refused-then-not-mixes.ensures in
    not_mixed _ _ _ _ _ _ _ c.prepare.ensures.says _ c.in-Ok.is c.mixes.ensures _ _ c.if-not-mixes.true why

pub returns-else-not-mixes : goal.returns-else-not-mixes
returns-else-not-mixes c =
    record {
      to_first = served _ _ _ _ _ _ _ c.prepare.ensures.says _ c.in-Ok.is c.mixes.ensures _ _ (c.if-not-mixes.false) c.run_toggles-to_first.ensures;
      to_second = served _ _ _ _ _ _ _ c.prepare.ensures.says _ c.in-Ok.is c.mixes.ensures _ _ (c.if-not-mixes.false) c.run_toggles-to_second.ensures;
    }
