-- `sheet_names::key_among` meets its contract. The invariant: the key is among the keys exactly if it was found or is among those from here on.
use mathlib.Core.Path.{◌≡◌}
use mathlib.Core.Bool.{◌||◌}
use lib.ListN.{drop}
use Rattle.sheet_names.specs.Keys.{has}
use Rattle.sheet_names.proofs.key_among.Given as goal

abbrev pub invariant-loop-k : goal.invariant-loop-k
invariant-loop-k l = has l.keys l.key ≡ (l.found || has (drop l.k-index l.keys) l.key)
