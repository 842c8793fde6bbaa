use native.Mathlib.Omega.{arith}
use Rattle.cross_columns.proofs.ColumnLaws.{empty, column_more}
use borrow.Author.Rules.{rules}
use Rattle.cross_columns.proofs.fill_columns.Goals as goal

pub loop-i-init : goal.loop-i-init
loop-i-init c = search (empty, rules)

pub loop-i-preserved : goal.loop-i-preserved
loop-i-preserved c = column_more _ _ _ c.loop-i.invariant (omega arith) c.shape_at.ensures c.entry_of-entry.ensures _ _ c.put.ensures c.put-in-loop-i.ensures
