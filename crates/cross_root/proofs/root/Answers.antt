use mathlib.Core.Path.{refl}
use Rattle.cross_root.proofs.Newton.{begins, goes_on}
use Rattle.cross_root.proofs.root.Goals as goal

pub loop-q-init : goal.loop-q-init
loop-q-init c = let b = begins c.args.n c.ilog2.result c.ilog2.ensures.next_power_gt c.ilog2.ensures.bound _ refl in (b.0, b.1, b.2, refl)

pub loop-q-preserved : goal.loop-q-preserved
loop-q-preserved c =
    let i = c.loop-q.invariant in
    let g = goes_on c.args.n c.loop-q.r c.loop-q.q c.if-n-eq0.false i.3 c.loop-q-test.true i.1 in
    (g.0, g.1, g.2, refl)
