-- The lines as they are lent: six numbers a line, its origin and then its direction.
use Rattle.std.specs.Prelude.{ℕ, zero, suc, ◌+◌, ◌/◌, List, [], ◌∷◌, length, drop, get_or, Float}
use Rattle.std.specs.Float.{nan}
use Rattle.cross_shapes.specs.declared.Probe.{Probe}

-- "A number that it lacks is not finite."
abbrev pub probe_from : List Float → Probe
probe_from numbers =
    record {
      ox = get_or numbers 0 nan;
      oy = get_or numbers 1 nan;
      oz = get_or numbers 2 nan;
      dx = get_or numbers 3 nan;
      dy = get_or numbers 4 nan;
      dz = get_or numbers 5 nan;
    }

unfoldable pub probes_from : ℕ → List Float → List Probe
probes_from zero numbers = []
probes_from (suc n) numbers = probe_from numbers ∷ probes_from n (drop 6 numbers)

-- "A line begun counts."
abbrev pub probes_of : List Float → List Probe
probes_of numbers = probes_from ((length numbers + 5) / 6) numbers
