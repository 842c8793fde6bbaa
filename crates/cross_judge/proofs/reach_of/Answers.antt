use Rattle.cross_judge.proofs.GrowLaws.{covering_starts, covering_on, covering_ends}
use borrow.Author.Rules.{rules}
use Rattle.cross_judge.proofs.reach_of.Goals as goal

pub loop-i-init : goal.loop-i-init
loop-i-init c = search (covering_starts, rules)

pub loop-i-preserved : goal.loop-i-preserved
loop-i-preserved c = search (covering_on, rules)

pub returns : goal.returns
returns c = search (covering_ends, rules)
