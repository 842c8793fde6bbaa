-- `line_strips::open_rows` meets its contract.
use Rattle.line_strips.proofs.Opens.{Opening}
use Rattle.line_strips.proofs.open_rows.Given as goal

abbrev pub invariant-loop-s : goal.invariant-loop-s
invariant-loop-s l = Opening l.names l.m l.s l.initial.words l.words
