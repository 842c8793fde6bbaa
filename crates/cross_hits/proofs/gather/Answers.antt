use borrow.Author.Rules.{rules}
use mathlib.Core.Path.{refl}
use native.Mathlib.Omega.{arith}
use Rattle.word_bits.proofs.OthersLaws.{others_less}
use Rattle.cross_hits.proofs.BlockLaws.{gather_starts, gather_none, gather_last, block_near, block_fillable, block_held, block_begun, lessers_further, greaters_further, gather_on, fault-ends}
use Rattle.cross_hits.proofs.gather.Goals as goal

pub loop-rest-init : goal.loop-rest-init
loop-rest-init c = (search rules, (search rules, search (gather_starts, rules)))

pub returns-then-alone-start-clause-ends : goal.returns-then-alone-start-clause-ends
returns-then-alone-start-clause-ends c = let at = c.loop-rest.invariant.1.1 in gather_last at c.lowest-b.ensures (omega arith)

pub returns-then-alone-start-clause-beside : goal.returns-then-alone-start-clause-beside
returns-then-alone-start-clause-beside c = let at = c.loop-rest.invariant.1.1 in (at.lessers_beside, at.greaters_beside)

pub ask-asked-requires-clause-start_bound : goal.ask-asked-requires-clause-start_bound
ask-asked-requires-clause-start_bound c = let at = c.loop-rest.invariant.1.1 in (block_near at c.lowest-b.ensures (omega arith), omega arith, at.crosses.sized.inside)

pub ask-asked-requires-clause-fillable : goal.ask-asked-requires-clause-fillable
ask-asked-requires-clause-fillable c = let at = c.loop-rest.invariant.1.1 in block_fillable at c.lowest-b.ensures (omega arith)

pub visit-requires-clause-size_bound : goal.visit-requires-clause-size_bound
visit-requires-clause-size_bound c = let at = c.loop-rest.invariant.1.1 in (omega (arith, block_near at c.lowest-b.ensures (omega arith)), at.crosses.sized.inside)

pub visit-requires-clause-held : goal.visit-requires-clause-held
visit-requires-clause-held c = let at = c.loop-rest.invariant.1.1 in block_held at c.lowest-b.ensures (omega arith)

pub returns-in_err-m-clause-ends : goal.returns-in_err-m-clause-ends
returns-in_err-m-clause-ends c = let at = c.loop-rest.invariant.1.1 in fault-ends _ _ _ _ _ (rw c.in_err-m.was at (c.visit.ensures.reached _ (block_begun at c.lowest-b.ensures (omega arith) _ _ _ _ (c.ask-asked.ensures.told _ _ _ at.crosses) refl c.from.ensures c.min.ensures))) (search rules)

pub returns-in_err-m-clause-beside : goal.returns-in_err-m-clause-beside
returns-in_err-m-clause-beside c = let at = c.loop-rest.invariant.1.1 in (lessers_further at c.lowest-b.ensures (omega arith) c.ask-asked.ensures.beside.0 c.ask-asked.ensures.beside.1, greaters_further at c.lowest-b.ensures (omega arith) c.ask-asked.ensures.beside.0 c.ask-asked.ensures.beside.1)

pub loop-rest-smaller : goal.loop-rest-smaller
loop-rest-smaller c = others_less c.others-rest.ensures (omega (arith, c.loop-rest-test.true))

pub loop-rest-preserved : goal.loop-rest-preserved
loop-rest-preserved c =
    let all = c.loop-rest.invariant in
    let at = all.1.1 in
    let reached = rw c.in_ok-m.was at (c.visit.ensures.reached _ (block_begun at c.lowest-b.ensures (omega arith) _ _ _ _ (c.ask-asked.ensures.told _ _ _ at.crosses) refl c.from.ensures c.min.ensures)) in
    (all.0, (all.1.0, gather_on at c.lowest-b.ensures (omega arith) c.ask-asked.ensures.beside.0 c.ask-asked.ensures.beside.1 _ _ _ c.min.ensures _ reached c.others-rest.ensures))

pub returns-clause-ends : goal.returns-clause-ends
returns-clause-ends c = gather_none c.loop-rest.invariant.1.1 c.loop-rest-test.false

pub returns-clause-beside : goal.returns-clause-beside
returns-clause-beside c = (c.loop-rest.invariant.1.1.lessers_beside, c.loop-rest.invariant.1.1.greaters_beside)
