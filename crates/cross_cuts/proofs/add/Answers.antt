-- `cross_cuts::add` meets its contract: case by case of what is met.
use borrow.Author.Rules.{rules}
use Rattle.cross_cuts.proofs.GatherLaws.{adds_never, adds_once, adds_twice}
use Rattle.cross_cuts.proofs.add.Goals as goal

pub returns-in-Never-clause-adds : goal.returns-in-Never-clause-adds
returns-in-Never-clause-adds c = search (adds_never, rules)

pub returns-in-Once-clause-adds : goal.returns-in-Once-clause-adds
returns-in-Once-clause-adds c = search (adds_once, rules)

pub returns-in-Twice-clause-adds : goal.returns-in-Twice-clause-adds
returns-in-Twice-clause-adds c = search (adds_twice, rules)
