use borrow.Author.Rules.{rules}
use mathlib.Core.Path.{sym, ap, ◌∙◌}
use native.Mathlib.Omega.{arith}
use Rattle.word_bits.proofs.OthersLaws.{others_less}
use Rattle.cross_cuts.specs.Keys.{cut_of}
use Rattle.cross_hits.proofs.VisitLaws.{walk_starts, walk_held, walk_here, walk_on, visit_starts, visit_fault, visit_on, visit_last, visit_none}
use Rattle.cross_hits.proofs.visit.Goals as goal

pub loop-rest-init : goal.loop-rest-init
loop-rest-init c = (search (walk_starts, rules), visit_starts)

pub returns-then-block-c-clause-reached : goal.returns-then-block-c-clause-reached
returns-then-block-c-clause-reached c = λ cuts begun. search (visit_last, rules)

pub returns-in-None-clause-reached : goal.returns-in-None-clause-reached
returns-in-None-clause-reached c = λ cuts begun. visit_fault (c.loop-rest.invariant.1 cuts begun) c.lowest-c.ensures (omega arith) (c.met_at.ensures cuts) (ap cut_of c.in-None.is)

pub add-m-requires : goal.add-m-requires
add-m-requires c = (search (walk_held, rules), omega arith, search (walk_here, rules))

pub loop-rest-smaller : goal.loop-rest-smaller
loop-rest-smaller c = others_less c.others-rest.ensures (omega (arith, c.loop-rest-test.true))

pub loop-rest-preserved : goal.loop-rest-preserved
loop-rest-preserved c = (
  walk_on c.loop-rest.invariant.0 c.lowest-c.ensures (search rules) (omega arith) c.add-m.ensures.adds c.others-rest.ensures,
  λ cuts begun. visit_on (c.loop-rest.invariant.1 cuts begun) c.lowest-c.ensures (omega arith) (λ at. ap cut_of (sym c.in-Some.is) ∙ c.met_at.ensures cuts at) c.add-m.ensures.adds c.add-m.ensures.elsewhere c.others-rest.ensures,
)

pub returns-clause-reached : goal.returns-clause-reached
returns-clause-reached c = visit_none c.loop-rest.invariant.1 c.loop-rest-test.false
