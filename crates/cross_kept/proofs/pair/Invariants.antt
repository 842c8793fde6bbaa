-- `cross_kept::pair` meets its contract: the first i shapes are put together.
use Rattle.cross_kept.proofs.KeepLaws.{Pairing}
use Rattle.cross_kept.proofs.pair.Given as goal

abbrev pub invariant-loop-i : goal.invariant-loop-i
invariant-loop-i l = Pairing l.one l.other l.i l.initial.ranks.lessers l.initial.ranks.greaters l.ranks.lessers l.ranks.greaters
