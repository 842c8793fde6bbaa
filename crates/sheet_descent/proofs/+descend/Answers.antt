use borrow.Author.Rules.{rules}
use mathlib.Core.Path.{◌≡◌}
use Rattle.std.specs.Prelude.{None}
use Rattle.sheet_descent.proofs.Descending.{ends_fails, leaf-whole, fails_here, left_fails, right_fails, both_whole}
use Rattle.sheet_descent.proofs.+descend.Goals as goal

pub returns-then-past-at-clause-descended : goal.returns-then-past-at-clause-descended
returns-then-past-at-clause-descended t c = search ends_fails

pub returns-then-code-names-clause-descended : goal.returns-then-code-names-clause-descended
returns-then-code-names-clause-descended t c = search leaf-whole

pub returns-then-not-is_operation-clause-descended : goal.returns-then-not-is_operation-clause-descended
returns-then-not-is_operation-clause-descended t c = fails_here _ _ _ _ _ _ c.requires c.if-past-at.false _ c.two-code.ensures.0 c.if-code-names.false (cc)

pub returns-in_err-mid-clause-descended : goal.returns-in_err-mid-clause-descended
returns-in_err-mid-clause-descended t c =
    let e : c.from_residual.result ≡ None = search rules in
    rw e (left_fails _ _ _ _ _ _ c.requires c.if-past-at.false _ c.two-code.ensures.0 c.if-code-names.false (cc) c.in_err-mid.ensures.descended)

pub returns-in_err-next-clause-descended : goal.returns-in_err-next-clause-descended
returns-in_err-next-clause-descended t c =
    let e : c.from_residual-in_err-next.result ≡ None = search rules in
    rw e (right_fails _ _ _ _ _ _ c.requires c.if-past-at.false _ c.two-code.ensures.0 c.if-code-names.false (cc) _ _ c.in_ok-mid.ensures.descended c.in_err-next.ensures.descended)

pub returns-clause-descended : goal.returns-clause-descended
returns-clause-descended t c = search (both_whole, rules)
