-- What a lent answer list holds after a call.
use Rattle.std.specs.Prelude.{List, ◌++◌, length, drop}
use Rattle.outcome.specs.Outcome.{Outcome, given, refused, unfit}

-- The entries given; past the last one, what was lent.
abbrev pub filled : {A : Type 0} → List A → List A → List A
filled new old = new ++ drop (length new) old

-- A refusal writes nothing.
abbrev pub after_call : {A : Type 0} → Outcome (List A) → List A → List A
after_call (given new) old = filled new old
after_call (refused number place) old = old
after_call (unfit number place) old = old
