-- What the answers of this crate say: sheets accepted, or prepared for a job.
use Rattle.std.specs.Prelude.{Result, Ok, Err, ℕ, ◌≤◌, ◌≡◌, List, length, take}
use Rattle.outcome.specs.Outcome.{given}
use Rattle.outcome.specs.Refusing.{answered}
use Rattle.outcome.specs.declared.Refusal.{Refusal}
use Rattle.formula.specs.Formula.{postfix}
use Rattle.contraction.specs.declared.Records.{Records}
use Rattle.sheet.specs.Sheet.{Sheets, Sheet}
use Rattle.sheet.specs.Guaranteed.{Guaranteed}
use Rattle.tree_dwarf.specs.Dwarfed.{Dwarfed}
use Rattle.tree_dwarf.specs.declared.Figures.{Figures}
use Rattle.accepting.specs.Accepting.{accepted}
use Rattle.accepting.specs.declared.Acceptance.{Acceptance}
use Rattle.accepting.specs.declared.Prepared.{Prepared}

-- The sheets are accepted as r; its number of names, and its codes as the first n entries.
pub record Coded (c : Sheets) (r : Sheet) (names n : ℕ) (codes : List ℕ) : Type 0 where
  pub is : accepted c ≡ given r
  pub names_are : names ≡ length r.names
  pub few_codes : n ≤ 2047
  pub codes_are : take n codes ≡ postfix r.formula
  pub facts : Guaranteed c r

-- By cases: the sheets are accepted and the codes stand in the array; or one of them is refused with this reason and place.
abbrev pub SaysCoded : Sheets → List ℕ → Result Acceptance Refusal → Type 0
SaysCoded c codes (Ok a) = (r : Sheet) × Coded c r a.names a.codes codes
SaysCoded c codes (Err e) = accepted c ≡ answered (Err e)

-- The same, and what is built of its formula.
pub record Stands (c : Sheets) (r : Sheet) (names n : ℕ) (b : Figures) (codes : List ℕ) (rs : Records) : Type 0 where
  pub coded : Coded c r names n codes
  pub built : Dwarfed r.formula rs b

abbrev pub Says : Sheets → List ℕ → Records → Result Prepared Refusal → Type 0
Says c codes rs (Ok p) = (r : Sheet) × Stands c r p.names p.codes p.built codes rs
Says c codes rs (Err e) = accepted c ≡ answered (Err e)
