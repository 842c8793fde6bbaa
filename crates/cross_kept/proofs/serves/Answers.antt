-- `cross_kept::serves` meets its contract: the same bits are the same numbers.
use Rattle.cross_kept.proofs.KeepLaws.{finite-along, serves_is}
use borrow.Author.Rules.{rules}
use Rattle.cross_kept.proofs.serves.Goals as goal

pub same-one-requires : goal.same-one-requires
same-one-requires c = (c.requires.1.one, finite-along _ c.requires.0 _ _ c.along.ensures)

pub same-other-requires : goal.same-other-requires
same-other-requires c = (c.requires.1.other, finite-along _ c.requires.0 _ _ c.along-2.ensures)

pub returns : goal.returns
returns c = search (serves_is, rules)
