-- `sheet_names::key` meets its contract. The invariant: the bytes from here on, mixed into the key so far, give the name's key.
use mathlib.Core.Path.{◌≡◌}
use lib.ListN.{drop}
use Rattle.sheet_names.specs.Keys.{key_of, key_from}
use Rattle.sheet_names.proofs.key.Given as goal

abbrev pub invariant-loop-x : goal.invariant-loop-x
invariant-loop-x l = key_of l.name ≡ key_from l.mix (drop l.x-index l.name)
