-- `sheet_laying::lay_first` meets its contract. The invariant: the codes that are still to be read and the operations that wait decide.
use Rattle.sheet_laying.proofs.Laying.{Lays}
use Rattle.sheet_laying.proofs.lay_first.Given as goal

abbrev pub invariant-loop-at : goal.invariant-loop-at
invariant-loop-at l = Lays l.formula l.n l.initial.laid l.laid l.held.many l.held.last l.at
