-- `sheet_reading::fit_fields` meets its contract. The invariant: the names from `at` on, after those walked so far, are all that the sheet gives.
use mathlib.Core.Path.{◌≡◌}
use mathlib.Core.List.{[]}
use Prim.Native.Nat.{◌-◌}
use Rattle.sheet.specs.Sheet.{fitting_fields}
use Rattle.sheet.specs.Walk.{walk_end, walk_names}
use Rattle.sheet_names.specs.Keys.{NamesRead}
use Rattle.sheet_reading.proofs.fit_fields.Given as goal

abbrev pub invariant-loop-past : goal.invariant-loop-past
invariant-loop-past l = NamesRead l.sheet 0 l.sheet l.names l.keys × (l.at ≡ walk_end l.sheet 5 l.names)
    × (fitting_fields 257 l.sheet 5 [] ≡ fitting_fields (257 - l.names) l.sheet l.at (walk_names l.sheet 5 l.names))

abbrev pub decreases-loop-past : goal.decreases-loop-past
decreases-loop-past l = 257 - l.names
