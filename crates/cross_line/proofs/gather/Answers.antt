use mathlib.Core.Path.{refl}
use Rattle.cross_cuts.proofs.GatherLaws.{going_starts}
use Rattle.cross_line.proofs.LineLaws.{held_starts, gone_fault, gone_on, gone_ends, all_held}
use Rattle.cross_line.proofs.gather.Goals as goal

pub loop-i-init : goal.loop-i-init
loop-i-init g c = (held_starts c.requires.gatherable, λ number cuts counted meets. going_starts number cuts _ _ refl c.requires.gatherable.twice)

pub returns-in_default-clause-gathers : goal.returns-in_default-clause-gathers
returns-in_default-clause-gathers g c = gone_fault _ _ _ c.loop-i.invariant.1 _ c.loop-i-test.true c.in_default.is c.meet.ensures

pub loop-i-preserved : goal.loop-i-preserved
loop-i-preserved g c = gone_on _ _ _ c.loop-i.invariant.1 _ _ _ _ _ c.loop-i.invariant.0 c.loop-i-test.true c.in-Some.is c.meet.ensures c.add-m.ensures.adds

pub returns-clause-held : goal.returns-clause-held
returns-clause-held g c = all_held c.loop-i.invariant.0 c.loop-i.auto.i-end c.loop-i-test.false

pub returns-clause-gathers : goal.returns-clause-gathers
returns-clause-gathers g c = gone_ends _ _ _ c.loop-i.invariant.1 c.loop-i-test.false
