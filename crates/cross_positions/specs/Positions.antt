-- The position of a face on a probe line, in whole micrometres: document 02, 'Crossings from the drawing's own numbers'.
use Rattle.std.specs.Prelude.{ℕ, ◌*◌, Bool, true, false, cond, ◌&&◌, ℤ, pos, negsuc, neg_ℤ, Float}
use Rattle.std.proofs.Math.Option.{Option, none, some}
use Rattle.std.specs.Int.Signed.{le_z}
use Rattle.std.specs.Float.{nan, inf, fin, binary64}
use Rattle.std.specs.Float.Ieee.{up, down, of_int, sub, div, mul}
use Rattle.std.specs.Float.Ieee.Nearest.{closest}

-- "The distance to a face is face less origin, divided by the direction's component, then times 1000, each operation rounded once."
-- Each of `sub`, `div` and `mul` is the f64 nearest to the exact outcome.
abbrev pub thousand : Float
thousand = of_int binary64 (pos 1000)

abbrev pub distance : Float → Float → Float → Float
distance face origin component = mul binary64 (div binary64 (sub binary64 face origin) component) thousand

-- A size with its sign.
abbrev pub signed : Bool → ℕ → ℤ
signed true n = neg_ℤ (pos n)
signed false n = pos n

-- "The position is the nearest whole number, halves to even." A float `fin s m e` is m * 2 ^ e with the sign s, and m * 2 ^ e is
-- m * up e / down e; `closest` is the whole number nearest to a quotient, halves to even. What is not finite has no position.
unfoldable pub nearest_whole : Float → Option ℤ
nearest_whole nan = none
nearest_whole (inf s) = none
nearest_whole (fin s m e) = some (signed s (closest (m * up e) (down e)))

-- "Not finite or outside -2147483647 to 2147483646": none. The range is judged after rounding.
abbrev pub allowed : ℤ → Bool
allowed z = le_z (negsuc 2147483646) z && le_z z (pos 2147483646)

abbrev pub in_range : Option ℤ → Option ℤ
in_range none = none
in_range (some z) = cond (allowed z) (some z) none

-- The position of a face, where it has one that may be given.
abbrev pub position : Float → Float → Float → Option ℤ
position face origin component = in_range (nearest_whole (distance face origin component))
