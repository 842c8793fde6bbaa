-- `sheet_reading::read_fields` meets its contract. The invariant: the reading from `at` on, after the names walked so far, is the whole reading.
use mathlib.Core.Path.{◌≡◌}
use mathlib.Core.List.{[]}
use Prim.Native.Nat.{◌-◌}
use Rattle.sheet.specs.Walk.{walk_end, walk_names, fitted_by}
use Rattle.sheet_names.specs.Keys.{NamesRead}
use Rattle.sheet_reading.specs.Told.{told_from}
use Rattle.sheet_reading.proofs.read_fields.Given as goal

abbrev pub invariant-loop-past : goal.invariant-loop-past
invariant-loop-past l = NamesRead l.fittings l.fitted l.sheet l.names l.keys × (l.at ≡ walk_end l.sheet 5 l.names)
    × (told_from (fitted_by l.edition l.fittings l.fitted) 257 l.sheet 5 [] ≡ told_from (fitted_by l.edition l.fittings l.fitted) (257 - l.names) l.sheet l.at (walk_names l.sheet 5 l.names))

abbrev pub decreases-loop-past : goal.decreases-loop-past
decreases-loop-past l = 257 - l.names
