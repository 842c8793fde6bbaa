use borrow.Author.Rules.{rules}
use Rattle.tree_rake.proofs.StepsLaws.{raking_end}
use Rattle.tree_rake.proofs.rake.Goals as goal

pub returns-clause-raked_to : goal.returns-clause-raked_to
returns-clause-raked_to c = search (raking_end, rules)
