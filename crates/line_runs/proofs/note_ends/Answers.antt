use native.Mathlib.Omega.{arith}
use Rattle.line_runs.proofs.EndLaws.{run_more}
use Rattle.line_runs.proofs.note_ends.Goals as goal

pub loop-k-preserved : goal.loop-k-preserved
loop-k-preserved c = run_more _ _ _ _ _ _ c.loop-k.invariant (omega arith) (omega arith) (omega arith) c.line_ends.ensures
