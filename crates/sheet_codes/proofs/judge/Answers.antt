use borrow.Author.Rules.{rules}
use native.Mathlib.Nat.{add-zero}
use Rattle.sheet_codes.proofs.CodeSteps.{formula_of_counted, count-leaf, count-operation, count_end}
use Rattle.sheet_codes.proofs.judge.Goals as goal

pub loop-i-init : goal.loop-i-init
loop-i-init c = (search rules, search rules, rw add-zero (formula_of_counted _ _ _ _))

pub loop-i-preserved-then-code-names : goal.loop-i-preserved-then-code-names
loop-i-preserved-then-code-names c = (search rules, search rules, search count-leaf)

pub returns-in_err-need : goal.returns-in_err-need
returns-in_err-need c =
    let e = count-operation c.args.names c.args.tag c.args.first c.args.codes.now c.loop-i.i c.loop-i.waiting c.loop-i.leaves _ c.loop-i.invariant.2 c.loop-i-test.true c.two-code.result c.two-code.ensures.0 c.if-code-names.false in
    rw e (search rules)

pub returns-in_err-need-2 : goal.returns-in_err-need-2
returns-in_err-need-2 c =
    let e = count-operation c.args.names c.args.tag c.args.first c.args.codes.now c.loop-i.i c.loop-i.waiting c.loop-i.leaves _ c.loop-i.invariant.2 c.loop-i-test.true c.two-code.result c.two-code.ensures.0 c.if-code-names.false in
    rw e (search rules)

pub loop-i-preserved : goal.loop-i-preserved
loop-i-preserved c =
    let e = count-operation c.args.names c.args.tag c.args.first c.args.codes.now c.loop-i.i c.loop-i.waiting c.loop-i.leaves _ c.loop-i.invariant.2 c.loop-i-test.true c.two-code.result c.two-code.ensures.0 c.if-code-names.false in
    (search rules, search rules, rw e (search rules))

pub returns-in_err-need-3 : goal.returns-in_err-need-3
returns-in_err-need-3 c =
    let e = count_end c.args.names c.args.tag c.args.first c.args.codes.now c.loop-i.i c.loop-i.waiting c.loop-i.leaves _ c.loop-i.invariant.2 c.loop-i-test.false c.requires.0 in
    rw e (search rules)

pub returns : goal.returns
returns c =
    let e = count_end c.args.names c.args.tag c.args.first c.args.codes.now c.loop-i.i c.loop-i.waiting c.loop-i.leaves _ c.loop-i.invariant.2 c.loop-i-test.false c.requires.0 in
    rw e (search rules)
