-- Word by word.
use Rattle.line_runs.proofs.EndLaws.{NotedTo}
use Rattle.line_runs.proofs.note_ends.Given as goal

abbrev pub invariant-loop-k : goal.invariant-loop-k
invariant-loop-k l = NotedTo l.line l.i l.n l.lasts l.k
