-- Wall by wall, up to a wrong entry.
use Rattle.line_opinion.specs.Eating.{lists_of}
use Rattle.line_opinion.proofs.AllLaws.{Eating}
use Rattle.line_opinion.proofs.eat_all.Given as goal

abbrev pub invariant-loop-k : goal.invariant-loop-k
invariant-loop-k l = Eating (lists_of l.list) (lists_of l.ours) l.first l.next l.k
