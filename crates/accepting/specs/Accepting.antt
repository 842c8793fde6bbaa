-- What every job asks first: document 01, 'Refusals by number', and document 02, K7.
use Rattle.std.specs.Prelude.{ℕ, leb}
use Rattle.outcome.specs.Outcome.{Outcome, given, need, ◌>>=◌, ◌>>◌}
use Rattle.contraction.specs.Rounds.{dwarf}
use Rattle.contraction.specs.Height.{height}
use Rattle.sheet.specs.Sheet.{Sheets, Sheet, reading}

abbrev pub tallest : ℕ
tallest = 57

-- The sheets, 1 to 7 and 17 in reading order; then 8, a dwarf height above 57.
unfoldable pub accepted : Sheets → Outcome Sheet
accepted c = do
  sheet ← reading c
  need (leb (height (dwarf sheet.formula)) tallest) 8 0
  given sheet
