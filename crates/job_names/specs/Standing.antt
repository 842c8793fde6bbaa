-- What the functions promise each other: the names of one sheet, of sheets that are read, and room for them.
use Rattle.std.specs.Prelude.{ℕ, ◌≤◌, List, map, length}
use Rattle.sheet.specs.Sheet.{Sheets}
use Rattle.job_name.specs.Naming.{Stand, field_in, stand_of}
use Rattle.job_name.specs.Within.{fitted_among}
use Rattle.job_names.specs.Names.{numbers_below}

-- The first n names of a sheet.
unfoldable pub fields_in : ℕ → List ℕ → ℕ → List Stand
fields_in which s n = map (field_in which s) (numbers_below n)

-- The names of sheets that are read, so many together.
unfoldable pub standing : Sheets → ℕ → List Stand
standing c names = map (stand_of c (fitted_among c)) (numbers_below names)

-- Room for so many entries in each list.
pub record Room (n : ℕ) (sheets firsts pasts : List ℕ) : Type 0 where
  pub sheets_room : n ≤ length sheets
  pub firsts_room : n ≤ length firsts
  pub pasts_room : n ≤ length pasts
