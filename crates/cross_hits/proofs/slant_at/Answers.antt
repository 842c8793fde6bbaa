-- `cross_hits::slant_at` meets its contract.
use Rattle.cross_hits.proofs.HitLaws.{slant_exit}
use borrow.Author.Rules.{rules}
use Rattle.cross_hits.proofs.slant_at.Goals as goal

pub returns : goal.returns
returns c = search (slant_exit, rules)
