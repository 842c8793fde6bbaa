use borrow.Author.Rules.{rules}
use Rattle.sheet_descent.proofs.Short.{short-on, short-unknown, short-ends}
use Rattle.sheet_descent.proofs.short_at.Goals as goal

pub returns-then-not-is_known : goal.returns-then-not-is_known
returns-then-not-is_known c = search (short-unknown, rules)

pub loop-i-preserved : goal.loop-i-preserved
loop-i-preserved c = search (short-on, rules)

pub returns : goal.returns
returns c = search (short-ends, rules)
