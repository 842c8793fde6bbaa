-- `cross_drawn::probe_at` meets its contract: six numbers, each where it stands.
use Rattle.cross_drawn.proofs.ProbeLaws.{probe_read}
use borrow.Author.Rules.{rules}
use Rattle.cross_drawn.proofs.probe_at.Goals as goal

pub returns : goal.returns
returns c = search (probe_read, rules)
