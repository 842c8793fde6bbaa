-- Up to the last line's end.
use native.Mathlib.Omega.{arith}
use mathlib.Core.Path.{refl}
use Rattle.line_runs.proofs.EndLaws.{cut_last}
use Rattle.line_runs.proofs.cut.Goals as goal

pub returns : goal.returns
returns c = cut_last _ _ _ _ (omega arith) c.after_last-j.ensures (omega arith) refl
