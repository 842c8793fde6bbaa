use borrow.Author.Rules.{rules}
use Rattle.cross_kept.proofs.KeepLaws.{pairing_starts, pairing_on, pairing_ends}
use Rattle.cross_kept.proofs.pair.Goals as goal

pub loop-i-init : goal.loop-i-init
loop-i-init c = pairing_starts

pub loop-i-preserved : goal.loop-i-preserved
loop-i-preserved c = search (pairing_on, rules)

pub returns : goal.returns
returns c = search (pairing_ends, rules)
